-- `compact::joined` meets its contract. Assumes nothing.
use Rattle.std.proofs.Common.{ℕ, ◌/◌, ap, arith}
use Rattle.number.specs.Laws.{one_word, shifted_in}
use Rattle.compact.proofs.joined.Goals as goal

pub returns : goal.returns
returns c =
    ap (λ (x : ℕ). x / 4) (shifted_in _ _ _ _ c.requires.0 (λ i. (c.type_inv.s i).fits) (one_word c.args.n _ _ c.word.ensures (omega arith)) c.ranges.b.fits)

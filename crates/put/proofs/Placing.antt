-- A leaf or bits on the way: from what `leaf_put` answers and leaves of them by themselves to what a writer does that has them further on.
use Rattle.std.specs.Prelude.{List, ◌≡◌, ℕ, ◌+◌, length, Ok}
use Rattle.std.proofs.Common.{ap, ap₂, ◌∙◌, arith}
use Rattle.leaf_put.specs.Landed.{landed_of, Puts}
use Rattle.rules.specs.Parser.{Res, got, bad, Parser}
use Rattle.rules.specs.Put.{Put, put, put_of}
use Rattle.rules.specs.Put.Relative.{shifted, Within, Relative}
use Rattle.rules.specs.Types.{Ty}
use Rattle.rules.proofs.Laws.Put.{put_most}
use Rattle.put.specs.Written.{Placeable, placed_of, Spare, PutsAt}

-- a value of type t that p puts
module _ (p : Parser (List ℕ)) (rel : Relative p) (at : ℕ) (cs : List ℕ) {pos : ℕ} {out m : List ℕ} {a : Put} (h : Puts pos (p 0 cs) out m a) where
  pub fits_there : (t : Ty) → put t 0 cs ≡ p 0 cs → Spare at cs pos → Placeable at pos a
  unfolding put_of
  fits_there t same S = rw h.answers (go (p 0 cs) same (rel at cs).1)
    where
      go : (R : Res (List ℕ)) → put t 0 cs ≡ R → Within (length cs) R → Placeable at pos (put_of 0 0 R)
      go (got l n) q w = let m = put_most t 0 cs l n S.words q in (omega (arith, m.0, S.taking), omega (arith, m.0, m.1, S.putting))
      go (bad y) q w = omega (arith, w, S.taking)

  pub put_there : {r : Put} → r ≡ placed_of at pos a → PutsAt at pos (p at cs) out m r
  unfolding put_of placed_of landed_of shifted
  put_there {r} f = rw (rel at cs).0 (go (p 0 cs) h.writes (f ∙ ap (placed_of at pos) h.answers))
    where
      go : (R : Res (List ℕ)) → m ≡ landed_of pos R out → r ≡ placed_of at pos (put_of 0 0 R) → PutsAt at pos (shifted at R) out m r
      go (got l n) g f =
          let i : at + (0 + n) ≡ at + n = omega arith in
          let j : pos + (0 + length l) ≡ pos + length l = omega arith in
          record { answers = f ∙ ap₂ (λ x y. Ok (x, y)) i j; writes = g }
      go (bad y) g f = record { answers = f; writes = tt }

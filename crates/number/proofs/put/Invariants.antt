-- `number::put` meets its contract: what is left to write, written from here, gives the whole of the part that bytes go to. Assumes nothing.
use Rattle.std.proofs.Common.{◌≡◌, ◌-◌, length}
use Rattle.std.proofs.lemmas.List.Edits.{sets}
use Rattle.rules.specs.Bytes.{le_bytes}
use Rattle.number.proofs.put.Given as goal

abbrev pub invariant-loop-byte : goal.invariant-loop-byte
invariant-loop-byte l = let n = length l.initial.part in sets l.part l.byte-index (le_bytes (n - l.byte-index) l.left) ≡ sets l.initial.part 0 (le_bytes n l.x)

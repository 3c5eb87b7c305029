-- What is written, as the code gives it: the forms by their values, and an encoding in an array of 17 bytes.
use Rattle.std.specs.Prelude.{List, ◌++◌, ℕ, ◌-◌, ◌^◌, ◌≤◌, ◌<◌, length, take, replicate}
use Rattle.compact_put.specs.declared.Encoded.{Encoded}
use Rattle.compact_put.specs.declared.Form.{Form}
use Rattle.compact_put.specs.declared.Form.TheVariants.{One, Two, Four, Counted}

-- v is a value of form f: too large for the forms before
abbrev pub OfForm : Form → ℕ → Type 0
OfForm One v = v < 64
OfForm Two v = (64 ≤ v) × (v < 2 ^ 14)
OfForm Four v = (2 ^ 14 ≤ v) × (v < 2 ^ 30)
OfForm Counted v = 2 ^ 30 ≤ v

-- an encoding as the code gives it: 17 bytes, those past its length 0. (`unfoldable`, so that antt can read l off a goal.)
unfoldable pub padded : List ℕ → Encoded
padded l = record { bytes = l ++ replicate (17 - length l) 0; len = length l }

-- the bytes of an encoding
abbrev pub front : Encoded → List ℕ
front e = take e.len e.bytes

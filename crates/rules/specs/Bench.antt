-- The starred plans of the bench as one table, and when a plan is answered rightly.
use Rattle.std.specs.Prelude.{true, false, List, [], ◌∷◌, ◌≡◌, ℕ, ◌-◌, ◌^◌, length, Ok, Err}
use Rattle.rules.specs.Refusals.{range_at, bit_count_at, depth_at, memory_at}
use Rattle.rules.specs.Types.{w2, w4, fixed, compact, Ty, leaf, vector, bits, Val}
use Rattle.rules.specs.Parser.{got}
use Rattle.rules.specs.Wire.{encode, read}
use Rattle.rules.specs.Scan.{Scan, scan}

pub data Plan : Type 0 where
  -- a value, and the bytes that are written for it and read as it
  says : (t : Ty) → Val t → List ℕ → Plan
  -- bytes that are read as a value for which others are written
  reads_as : (t : Ty) → List ℕ → Val t → Plan
  -- bytes under D and M, and the answer; C is 9
  gives : Ty → List ℕ → ℕ → ℕ → Scan → Plan

abbrev pub Right : Plan → Type 0
Right (says t v s) = (encode t v ≡ s) × (read t 0 s ≡ got v (length s))
Right (reads_as t s v) = read t 0 s ≡ got v (length s)
Right (gives t s d m x) = scan t (record { depth = d; memory = m; cells = 9 }) s ≡ x

abbrev pub number : ℕ → List ℕ → Plan
number v s = says (leaf (compact w4)) v s

abbrev pub shorts : Ty
shorts = vector (leaf (fixed w2))

abbrev pub starred_plans : List Plan
starred_plans =
    number 63 (0xfc ∷ [])
    ∷ number 64 (0x01 ∷ 0x01 ∷ [])
    ∷ number 16383 (0xfd ∷ 0xff ∷ [])
    ∷ number 16384 (0x02 ∷ 0x00 ∷ 0x01 ∷ 0x00 ∷ [])
    ∷ number (2 ^ 30 - 1) (0xfe ∷ 0xff ∷ 0xff ∷ 0xff ∷ [])
    ∷ number (2 ^ 30) (0x03 ∷ 0x00 ∷ 0x00 ∷ 0x00 ∷ 0x40 ∷ [])
    ∷ gives (leaf (compact w4)) (0x03 ∷ 0xff ∷ 0xff ∷ 0xff ∷ 0x3f ∷ []) 0 0 (Err (range_at 0))
    ∷ says bits (true ∷ false ∷ true ∷ []) (0x0c ∷ 0x05 ∷ [])
    ∷ reads_as bits (0x0c ∷ 0xfd ∷ []) (true ∷ false ∷ true ∷ [])
    ∷ gives bits (0xfe ∷ 0xff ∷ 0xff ∷ 0x7f ∷ []) 0 0 (Err (depth_at 0))
    ∷ gives bits (0x02 ∷ 0x00 ∷ 0x00 ∷ 0x80 ∷ []) 0 0 (Err (bit_count_at 0))
    ∷ gives shorts (0x00 ∷ []) 0 0 (Err (depth_at 0))
    ∷ gives shorts (0x00 ∷ []) 1 0 (Err (memory_at 0))
    ∷ gives shorts (0x00 ∷ []) 1 1 (Ok (record { depth = 1; charge = 0; cells = 1 }, 1))
    ∷ []

-- From what was taken and put to the answer and the output afterwards.
use Rattle.std.specs.Prelude.{List, ◌≡◌, ℕ, ◌+◌, length, Ok, Err}
use Rattle.std.proofs.Common.{ap₂, arith, refl}
use Rattle.std.proofs.lemmas.List.Edits.{sets}
use Rattle.rules.specs.Parser.{Res, got, bad, map_res}
use Rattle.rules.specs.Put.{put_of}
use Rattle.rules.specs.declared.Refusal.{Refusal}
use Rattle.leaf_put.specs.Landed.{landed_of, Puts}

-- a value that is refused, and one whose bytes were put
module _ {A : Type 0} (f : A → List ℕ) (pos : ℕ) (out : List ℕ) {R : Res A} where
  pub none_put : {y : Refusal} → R ≡ bad y → Puts pos (map_res f R) out out (Err y)
  unfolding map_res put_of landed_of
  none_put e = rw e (record { answers = refl; writes = refl })

  pub all_put : {v : A} {n used : ℕ} {m : List ℕ} → R ≡ got v n → used ≡ length (f v) → m ≡ sets out pos (f v) → Puts pos (map_res f R) out m (Ok (n, used))
  unfolding map_res put_of landed_of
  all_put {v} {n} {used} {m} e q h =
      let a : n ≡ 0 + n = omega arith in
      let b : used ≡ 0 + length (f v) = omega (arith, q) in
      rw e (record { answers = ap₂ (λ x y. Ok (x, y)) a b; writes = h })

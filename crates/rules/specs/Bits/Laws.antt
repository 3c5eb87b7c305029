-- When bits are alike but for those that don't count: what a word of bits is compared by.
use Rattle.std.specs.Prelude.{List, [], ◌∷◌, ◌≡◌, ℕ, ◌%◌, ◌^◌}

-- `w` is `l` but for bits that don't count: of each unit of l the lowest so many bits are kept
unfoldable pub Like : List ℕ → List ℕ → List ℕ → Type 0
Like [] [] [] = Prim.Unit {0}
Like (k ∷ ks) (b ∷ w) (c ∷ l) = (b ≡ c % 2 ^ k) × Like ks w l
Like [] [] (c ∷ l) = ⊥
Like [] (b ∷ w) l = ⊥
Like (k ∷ ks) [] l = ⊥
Like (k ∷ ks) (b ∷ w) [] = ⊥

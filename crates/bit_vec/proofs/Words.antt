-- What the loops over words of any type do, by the numbers that the words say: one bit more of a word, and one word more of a list.
use Rattle.std.proofs.Common.{◌≡◌, ℕ, ◌+◌, ◌-◌, ◌*◌, ◌/◌, ◌%◌, ◌^◌, ◌≤◌, ◌<◌, min, Bool, List, length, drop, take, map, get_or, set, div-lt_iff_lt-mul, ap, sym, ◌∙◌, arith}
use Rattle.std.proofs.lemmas.List.{get_or-map, length-map, map-id, map-set}
use Rattle.std.proofs.lemmas.List.Edits.{sets}
use Rattle.rules.specs.Bits.{bits_value, pack, lanes}
use Rattle.rules.specs.Bits.Places.{gathered, stored}
use Rattle.rules.proofs.Laws.Bits.Places.{gathered_none, gathered_step, stored_step, stored_none}

-- of n bits in k words of u bits, the word of bit i is there
pub word_there : (u n k i : ℕ) → 0 < u → n ≤ k * u → i < n → i / u < k
word_there u n k i p h l = (div-lt_iff_lt-mul p).1 (omega arith)

module _ {A : Type 0} (f : A → ℕ) where
  pub no_bit : (w first left u n : ℕ) (xs : List A) → n ≤ length xs * u → left ≡ min w (n - first) → 0 ≡ gathered w first left (lanes u n (map f xs))
  no_bit w first left u n xs h e = sym (gathered_none w first left u n (map f xs) (rw length-map h) e)

  -- `word` is the one that bit `first + (left - 1)` stands in, and y that bit
  pub bit_more : (w first left u n x y : ℕ) (xs : List A) (word : A) → 0 < u → n ≤ length xs * u → 0 < left → left ≤ min w (n - first) → x ≡ gathered w first left (lanes u n (map f xs))
      → word ≡ get_or xs ((first + (left - 1)) / u) word → y ≡ f word / 2 ^ ((first + (left - 1)) % u) % 2 → x * 2 + y ≡ gathered w first (left - 1) (lanes u n (map f xs))
  bit_more w first left u n x y xs word p h l k ex ew ey =
      let i = first + (left - 1) in
      let there : i / u < length xs = word_there u n (length xs) i p h (omega arith) in
      let same : f word ≡ get_or (map f xs) (i / u) 0 = ap f ew ∙ sym (get_or-map f xs (i / u) word 0 there) in
      gathered_step w first left u n (map f xs) x y p (rw length-map h) l k ex (rw same at ey)

  -- `all` is the list after all words are stored
  pub word_more : (w k : ℕ) (v : List Bool) (at j : ℕ) (to : List A) (word : A) (all : List ℕ) → j < k → f word ≡ bits_value (take w (drop (j * w) v))
      → stored w k v at j (map f to) ≡ all → stored w k v at (j + 1) (map f (set to (at + j) word)) ≡ all
  word_more w k v at j to word all h e rest = rw map-set (stored_step w k v at j (map f to) (f word) h e ∙ rest)

  pub words_done : (w k : ℕ) (v : List Bool) (at j : ℕ) (to : List A) (all : List ℕ) → min k (length to - at) ≤ j → stored w k v at j (map f to) ≡ all → map f to ≡ all
  words_done w k v at j to all h rest = sym (stored_none w k v at j (map f to) (rw length-map h)) ∙ rest

-- where the words are numbers themselves; k is counted in two ways
pub numbers_stored : (u w n k j at : ℕ) (from to new : List ℕ) → k ≡ j → map (λ x. x) new ≡ sets (map (λ x. x) to) at (pack w k (lanes u n (map (λ x. x) from)))
    → new ≡ sets to at (pack w j (lanes u n from))
numbers_stored u w n k j at from to new q e = sym (map-id new) ∙ rw (map-id to, map-id from, q) at e

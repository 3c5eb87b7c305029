-- What is decided, step by step: from the answers of the parts to what the whole append gives.
use Rattle.std.specs.Prelude.{Bool, true, false, List, ◌++◌, [], ◌∷◌, ◌≡◌, refl, ℕ, ◌+◌, ◌-◌, ◌*◌, ◌^◌, ◌≤◌, ◌<◌, ltb, leb, length, drop, take, Ok, Err}
use Rattle.std.proofs.Common.{ap, ap₂, sym, ◌∙◌, arith, ltb-false, leb-true, lt-ltb, le-ltb, le-leb, length-append, length-drop, length-take-le}
use Rattle.std.proofs.lemmas.Bool.{lt-leb}
use Rattle.rules.specs.Basics.{pick, Under, flat}
use Rattle.rules.specs.Bytes.{whole}
use Rattle.rules.specs.Cells.{unpack}
use Rattle.rules.specs.Compact.{compact_bytes, value, compact_from}
use Rattle.rules.specs.Form.{write, parse}
use Rattle.rules.specs.Jobs.{Output, wrote, not, put_out, output, of_vector, write_items, Written, written_of, old_count, joined, append_from, append_items, append_to, append}
use Rattle.rules.specs.Parser.{Res, got, bad, times}
use Rattle.rules.specs.Put.{put}
use Rattle.rules.specs.Refusals.{Answer, output_small, cells_left_at, append_root, append_used, append_head, append_count, max_count}
use Rattle.rules.specs.Table.{Check, fine, count, node_in, build, ty_at, root, check_table, after_check}
use Rattle.rules.specs.Types.{Ty, leaf, nothing, result, pair, array, vector, bits, size}
use Rattle.rules.specs.Wire.{leaf_bytes, encode, leaf_from}
use Rattle.rules.specs.declared.Halves.{Halves}
use Rattle.rules.specs.declared.Leaf.TheVariants.{Compact as compact}
use Rattle.rules.specs.declared.Node.{Node}
use Rattle.rules.specs.declared.Node.TheVariants.{Vector as vector_node}
use Rattle.rules.specs.declared.Refusal.{Refusal}
use Rattle.rules.specs.declared.Width.TheVariants.{W4 as w4}
use Rattle.rules.proofs.Laws.Bytes.{under_take}
use Rattle.rules.proofs.Laws.Compact.Bound.{compact_longest, larger_longer}
use Rattle.rules.proofs.Laws.Compact.Law.{compact_opens, compact_took}
use Rattle.rules.proofs.Laws.Put.{put_out_lem, put_most, output_put}
use Rattle.rules.proofs.Laws.Table.{check_good}
use Rattle.rules.proofs.Laws.Wire.{placed_says}
use Rattle.node.specs.Laws.{node_is, no_vector}
use Rattle.encode_append.specs.Answers.{Held, by_used, held_append, few_append, why_refused}
use Rattle.encode_append.specs.Joins.{Heads, root_check, heads_of, items_behind, bytes_of, Joins}

-- ---- the root

root_refusal : (tb : List ℕ) {x : Check} {t : Ty} → check_table tb ≡ x → root tb ≡ t → root_check tb ≡ after_check x Err (of_vector (λ _. fine) (Err append_root) t)
unfolding root_check
root_refusal tb e f = rw (e, f)

pub root_refused : (tb : List ℕ) {y : Refusal} → check_table tb ≡ Err y → Err y ≡ root_check tb
root_refused tb e = sym (root_refusal tb e refl)

-- the root's node, in the table as its check gives it
module _ {tb bytes : List ℕ} (same : bytes ≡ tb) (f : check_table bytes ≡ fine) {i : ℕ} (last : i ≡ count bytes - 1) {q : Node} (g : q ≡ node_in bytes i) where
  sound : check_table tb ≡ fine
  sound = rw same at f

  root_node : (n : Node) → q ≡ n → root tb ≡ build (ty_at bytes) n
  unfolding root
  root_node n e = sym (ap root same) ∙ (node_is bytes (check_good bytes f) (count bytes - 1) (omega (arith, (check_good bytes f).some)) q n (g ∙ ap (node_in bytes) last) e).0

  pub root_vector : {a : ℕ} → q ≡ vector_node a → fine ≡ root_check tb
  root_vector {a} e = sym (root_refusal tb sound (root_node (vector_node a) e))

  pub root_other : ((a : ℕ) → q ≡ vector_node a → ⊥) → Err append_root ≡ root_check tb
  root_other n = sym (root_refusal tb sound (root_node q refl) ∙ no_vector (λ _. fine) (Err append_root) (ty_at bytes) q n)

-- a checked table whose root is a vector
pub record Rooted (tb : List ℕ) : Type 0 where
  pub item : Ty
  pub checked : check_table tb ≡ fine
  pub rooted : root tb ≡ vector item

pub rooted_at : (tb : List ℕ) → root_check tb ≡ fine → Rooted tb
unfolding root_check
rooted_at tb e = go (check_table tb) refl (root tb) refl e
  where
    go : (x : Check) → check_table tb ≡ x → (t : Ty) → root tb ≡ t → after_check x Err (of_vector (λ _. fine) (Err append_root) t) ≡ fine → Rooted tb
    go fine f (vector t) r h = record { item = t; checked = f; rooted = r }
    go fine f (leaf l) r h = absurd (let z : ◌≡◌ {A = ℕ} 0 1 = cc in omega arith)
    go fine f nothing r h = absurd (let z : ◌≡◌ {A = ℕ} 0 1 = cc in omega arith)
    go fine f (result t u) r h = absurd (let z : ◌≡◌ {A = ℕ} 0 1 = cc in omega arith)
    go fine f (pair t u) r h = absurd (let z : ◌≡◌ {A = ℕ} 0 1 = cc in omega arith)
    go fine f (array n t) r h = absurd (let z : ◌≡◌ {A = ℕ} 0 1 = cc in omega arith)
    go fine f bits r h = absurd (let z : ◌≡◌ {A = ℕ} 0 1 = cc in omega arith)
    go (Err y) f t r h = absurd (let z : ◌≡◌ {A = ℕ} 0 1 = cc in omega arith)

module _ (tb buf : List ℕ) (used k : ℕ) (cs : List ℕ) where
  -- its refusals are the append's
  pub unrooted : (y : Refusal) → root_check tb ≡ Err y → append tb buf used k cs ≡ not y
  unfolding root_check append append_to
  unrooted y e = go (check_table tb) (root tb) e
    where
      go : (x : Check) (t : Ty) → after_check x Err (of_vector (λ _. fine) (Err append_root) t) ≡ Err y
          → after_check x not (of_vector (λ u. pick (leb used (length buf)) (append_items u (take used buf) k cs (length buf)) (not append_used)) (not append_root) t) ≡ not y
      go fine (vector t) h = absurd (let z : ◌≡◌ {A = ℕ} 0 1 = cc in omega arith)
      go fine (leaf l) h = let q : append_root ≡ y = cc in ap not q
      go fine nothing h = let q : append_root ≡ y = cc in ap not q
      go fine (result t u) h = let q : append_root ≡ y = cc in ap not q
      go fine (pair t u) h = let q : append_root ≡ y = cc in ap not q
      go fine (array n t) h = let q : append_root ≡ y = cc in ap not q
      go fine bits h = let q : append_root ≡ y = cc in ap not q
      go (Err z) t h = let q : z ≡ y = cc in ap not q

  pub beyond : Rooted tb → length buf < used → append tb buf used k cs ≡ not append_used
  beyond R h = why_refused tb buf used k cs append_used (by_used R.item R.checked R.rooted h refl)

-- ---- the count

pub count_none : (s : List ℕ) → length s ≡ 0 → old_count s ≡ got 0 0
unfolding old_count
count_none [] h = refl
count_none (b ∷ s) h = absurd (omega arith)

pub count_some : (s : List ℕ) → (length s ≡ 0 → ⊥) → old_count s ≡ leaf_from (compact w4) 0 s
unfolding old_count
count_some [] h = absurd (h refl)
count_some (b ∷ s) h = refl

pub count_unread : (k : ℕ) {R : Res ℕ} {y : Refusal} → R ≡ bad y → Err append_head ≡ heads_of k R
unfolding heads_of
count_unread k e = rw e

-- the old count and k more
module _ (k old len : ℕ) where
  pub count_many : max_count - old < k → Err append_count ≡ heads_of k (got old len)
  unfolding heads_of
  count_many h = rw (lt-leb (old + k) max_count (omega arith))

  pub count_few : {n : ℕ} {v : Halves} → old ≤ max_count → k ≤ max_count - old → v ≡ record { low = old + k; high = 0 } → n ≡ length (compact_bytes (whole v.low v.high))
      → Ok (record { count = old + k; old = len; new = n }) ≡ heads_of k (got old len)
  unfolding heads_of
  count_few {n} {v} g h ev en =
      let w : whole v.low v.high ≡ old + k = ap (λ (x : Halves). whole x.low x.high) ev ∙ omega arith in
      let l : n ≡ length (compact_bytes (old + k)) = en ∙ ap (λ x. length (compact_bytes x)) w in
      rw (le-leb (old + k) max_count (omega arith)) (ap (λ (x : ℕ). Ok (record { count = old + k; old = len; new = x })) l)

-- what the heads say
pub record Headed (k : ℕ) (R : Res ℕ) (d : Heads) : Type 0 where
  pub before : ℕ
  pub was : R ≡ got before d.old
  pub sum : d.count ≡ before + k
  pub few : d.count ≤ max_count
  pub long : d.new ≡ length (compact_bytes d.count)

pub headed : (k : ℕ) (R : Res ℕ) (d : Heads) → heads_of k R ≡ Ok d → Headed k R d
unfolding heads_of
headed k (got c n) d e = go (leb (c + k) max_count) refl e
  where
    go : (b : Bool) → leb (c + k) max_count ≡ b → ◌≡◌ {A = Answer Heads} (pick b (Ok (record { count = c + k; old = n; new = length (compact_bytes (c + k)) })) (Err append_count)) (Ok d) → Headed k (got c n) d
    go true f g =
        let same : ◌≡◌ {A = Heads} (record { count = c + k; old = n; new = length (compact_bytes (c + k)) }) d = cc in
        let a : c + k ≡ d.count = ap (λ (x : Heads). x.count) same in
        let b : n ≡ d.old = ap (λ (x : Heads). x.old) same in
        let l : length (compact_bytes (c + k)) ≡ d.new = ap (λ (x : Heads). x.new) same in
        let le : c + k ≤ max_count = leb-true (c + k) max_count f in
        record { before = c; was = ap (got c) b; sum = sym a; few = omega arith; long = sym l ∙ ap (λ x. length (compact_bytes x)) a }
    go false f g = absurd (let z : ◌≡◌ {A = ℕ} 0 1 = cc in omega arith)
headed k (bad y) d e = absurd (let f : ◌≡◌ {A = Answer Heads} (Err append_head) (Ok d) = e in let z : ◌≡◌ {A = ℕ} 0 1 = cc in omega arith)

-- 32 and 33
pub unheaded : (t : Ty) (s : List ℕ) (k : ℕ) (cs : List ℕ) (room : ℕ) (R : Res ℕ) (y : Refusal) → heads_of k R ≡ Err y → append_from t s k cs room R ≡ not y
unfolding heads_of append_from
unheaded t s k cs room (got c n) y e = go (leb (c + k) max_count) e
  where
    go : (b : Bool) → ◌≡◌ {A = Answer Heads} (pick b (Ok (record { count = c + k; old = n; new = length (compact_bytes (c + k)) })) (Err append_count)) (Err y)
        → pick b (put_out (length cs) room (joined t (c + k) n s) (times k (unpack t) 0 cs)) (not append_count) ≡ not y
    go true g = absurd (let z : ◌≡◌ {A = ℕ} 0 1 = cc in omega arith)
    go false g = let q : append_count ≡ y = cc in ap not q
unheaded t s k cs room (bad z) y e = let f : ◌≡◌ {A = Answer Heads} (Err append_head) (Err y) = e in let q : append_head ≡ y = cc in ap not q

-- an old head is in the used bytes, and as long as the count's encoding
pub old_head : (s : List ℕ) (c n : ℕ) → Under 256 s → old_count s ≡ got c n → (n ≤ length s) × (n ≤ length (compact_bytes c))
unfolding old_count leaf_from
old_head [] c n u e = let z : 0 ≡ n = cc in (omega arith, omega arith)
old_head (b ∷ s) c n u e =
    let a : compact_from (size w4) (b ∷ s) ≡ value c n = placed_says 0 (compact_from (size w4) (b ∷ s)) c n e in
    let o = compact_opens (size w4) c n (b ∷ s) u a in
    ((compact_took (size w4) c n (b ∷ s) a).1, omega (arith, o.used))

-- ---- the items

-- what an append writes, by the bytes of the new items
abbrev joined_bytes : List ℕ → ℕ → Heads → List ℕ → List ℕ
joined_bytes buf used d l = compact_bytes d.count ++ (drop d.old (take used buf) ++ l)

-- the writer of items, and the append, by what the items' cells give
module _ (tb : List ℕ) (R : Rooted tb) (k : ℕ) (cs : List ℕ) where
  items_put : (room : ℕ) → write_items tb k cs room ≡ put_out (length cs) room (λ l. l) (put (array k R.item) 0 cs)
  unfolding write_items
  items_put room =
      ap₂ (λ x t. after_check x not (of_vector (λ u. output (array k u) cs room) (not append_root) t)) R.checked R.rooted ∙ output_put (array k R.item) cs room

  module _ (buf : List ℕ) (used : ℕ) (h : used ≤ length buf) where
    H : Held tb buf used R.item
    H = record { checked = R.checked; rooted = R.rooted; there = h }

    pub append_from_lem : append tb buf used k cs ≡ append_from R.item (take used buf) k cs (length buf) (old_count (take used buf))
    append_from_lem = held_append tb buf used k cs R.item H

    append_put : {d : Heads} → Headed k (old_count (take used buf)) d → append tb buf used k cs ≡ put_out (length cs) (length buf) (joined_bytes buf used d) (put (array k R.item) 0 cs)
    unfolding put parse write leaf_bytes
    append_put {d} D =
        let t = R.item in
        let c = D.before in
        few_append tb buf used k cs t c d.old (record { held = H; counted = D.was }) (omega (arith, D.sum, D.few))
        ∙ put_out_lem (length cs) (length buf) (λ l. compact_bytes (c + k) ++ (drop d.old (take used buf) ++ l)) (flat (encode t)) (times k (unpack t) 0 cs)
        ∙ ap (λ x. put_out (length cs) (length buf) (λ l. compact_bytes x ++ (drop d.old (take used buf) ++ l)) (put (array k t) 0 cs)) (sym D.sum)

-- bytes that are written, as part of more
abbrev within : (List ℕ → List ℕ) → Output → Output
within F (wrote l) = wrote (F l)
within F (not y) = not y

-- 22 for the whole, where it is `end` bytes longer than the items, which by themselves always have room
put_within : (given room end : ℕ) (F : List ℕ → List ℕ) (P : Res (List ℕ)) → ((l : List ℕ) → length (F l) ≡ end + length l) → ((l : List ℕ) (n : ℕ) → P ≡ got l n → length l ≤ 2 ^ 64 - 1)
    → put_out given room F P ≡ within F (items_behind end room (put_out given (2 ^ 64 - 1) (λ l. l) P))
unfolding put_out items_behind
put_within given room end F (got l n) longer small =
    ap (λ b. pick (ltb n given) (not (cells_left_at n)) (pick b (not output_small) (wrote (F l)))) (ap (ltb room) (longer l))
    ∙ whole_of (ltb n given)
    ∙ ap (λ b. within F (items_behind end room (pick (ltb n given) (not (cells_left_at n)) (pick b (not output_small) (wrote l))))) (sym (le-ltb (2 ^ 64 - 1) (length l) (small l n refl)))
  where
    fit : (y : Bool) → pick y (not output_small) (wrote (F l)) ≡ within F (pick y (not output_small) (wrote l))
    fit true = refl
    fit false = refl

    whole_of : (x : Bool) → pick x (not (cells_left_at n)) (pick (ltb room (end + length l)) (not output_small) (wrote (F l)))
        ≡ within F (items_behind end room (pick x (not (cells_left_at n)) (wrote l)))
    whole_of true = refl
    whole_of false = fit (ltb room (end + length l))
put_within given room end F (bad y) longer small = refl

-- what was written has room wherever it fits
put_narrow : (given room room' : ℕ) (P : Res (List ℕ)) (l : List ℕ) → put_out given room (λ x. x) P ≡ wrote l → length l ≤ room' → put_out given room' (λ x. x) P ≡ wrote l
unfolding put_out
put_narrow given room room' (got x n) l e h = go (ltb n given) (ltb room (length x)) e
  where
    go : (a b : Bool) → pick a (not (cells_left_at n)) (pick b (not output_small) (wrote x)) ≡ wrote l → pick a (not (cells_left_at n)) (pick (ltb room' (length x)) (not output_small) (wrote x)) ≡ wrote l
    go true b f = absurd (let z : ◌≡◌ {A = ℕ} 0 1 = cc in omega arith)
    go false true f = absurd (let z : ◌≡◌ {A = ℕ} 0 1 = cc in omega arith)
    go false false f =
        let q : x ≡ l = cc in
        ap (λ b. pick b (not output_small) (wrote x)) (le-ltb room' (length x) (omega (arith, ap length q))) ∙ ap wrote q
put_narrow given room room' (bad y) l e h = absurd (let z : ◌≡◌ {A = ℕ} 0 1 = cc in omega arith)

-- ---- 22, and what is answered

module _ (end room : ℕ) where
  behind_small : (l : List ℕ) → room < end + length l → items_behind end room (wrote l) ≡ not output_small
  unfolding items_behind
  behind_small l h = ap (λ b. pick b (not output_small) (wrote l)) (lt-ltb room (end + length l) h)

  behind_fits : (l : List ℕ) → end + length l ≤ room → items_behind end room (wrote l) ≡ wrote l
  unfolding items_behind
  behind_fits l h = ap (λ b. pick b (not output_small) (wrote l)) (le-ltb room (end + length l) h)

  -- an answer of the items' size, and 22 after it
  pub sized_not : (O : Output) (q : Written) (y : Refusal) → q ≡ written_of O → q ≡ Err y → Err y ≡ written_of (items_behind end room O)
  unfolding items_behind
  sized_not (wrote l) q y e f = absurd (let g : Ok (length l) ≡ Err y = sym e ∙ f in let z : ◌≡◌ {A = ℕ} 0 1 = cc in omega arith)
  sized_not (not x) q y e f = sym f ∙ e

  pub sized_small : (O : Output) (q : Written) (n : ℕ) → q ≡ written_of O → q ≡ Ok n → room < end + n → Err output_small ≡ written_of (items_behind end room O)
  sized_small (wrote l) q n e f h =
      let g : Ok (length l) ≡ Ok n = sym e ∙ f in
      let k : length l ≡ n = cc in
      sym (ap written_of (behind_small l (omega arith)))
  sized_small (not x) q n e f h = absurd (let g : Err x ≡ Ok n = sym e ∙ f in let z : ◌≡◌ {A = ℕ} 0 1 = cc in omega arith)

  pub sized_fits : (O : Output) (q : Written) (n : ℕ) → q ≡ written_of O → q ≡ Ok n → end + n ≤ room → Ok n ≡ written_of (items_behind end room O)
  sized_fits (wrote l) q n e f h =
      let g : Ok (length l) ≡ Ok n = sym e ∙ f in
      let k : length l ≡ n = cc in
      sym (ap written_of (behind_fits l (omega arith)) ∙ ap Ok k)
  sized_fits (not x) q n e f h = absurd (let g : Err x ≡ Ok n = sym e ∙ f in let z : ◌≡◌ {A = ℕ} 0 1 = cc in omega arith)

  -- and what that says of the items
  behind_not : (O : Output) (y : Refusal) → Err y ≡ written_of (items_behind end room O) → items_behind end room O ≡ not y
  behind_not O y e = go (items_behind end room O) e
    where
      go : (x : Output) → Err y ≡ written_of x → x ≡ not y
      go (wrote l) f = absurd (let z : ◌≡◌ {A = ℕ} 0 1 = cc in omega arith)
      go (not x) f = let q : y ≡ x = cc in ap not (sym q)

  behind_wrote : (O : Output) (n : ℕ) → Ok n ≡ written_of (items_behind end room O) → (O ≡ wrote (bytes_of O)) × (n ≡ length (bytes_of O)) × (end + n ≤ room)
  unfolding items_behind
  behind_wrote (wrote l) n e = go (ltb room (end + length l)) refl e
    where
      go : (b : Bool) → ltb room (end + length l) ≡ b → Ok n ≡ written_of (pick b (not output_small) (wrote l)) → (wrote l ≡ wrote l) × (n ≡ length l) × (end + n ≤ room)
      go true g f = absurd (let z : ◌≡◌ {A = ℕ} 0 1 = cc in omega arith)
      go false g f = let q : n ≡ length l = cc in (refl, q, omega (arith, ltb-false room (end + length l) g))
  behind_wrote (not y) n e = absurd (let z : ◌≡◌ {A = ℕ} 0 1 = cc in omega arith)

-- ---- the plan

module _ (buf : List ℕ) {used k : ℕ} {d : Heads} (B : Under 256 buf) (h : used ≤ length buf) (H : Headed k (old_count (take used buf)) d) where
  -- the old head is in the used bytes, and no longer than the new one, which is short
  pub head_there : d.old ≤ used
  head_there = omega (arith, (old_head (take used buf) H.before d.old (under_take 256 used buf B) H.was).0, length-take-le used buf h)

  head_grows : d.old ≤ d.new
  head_grows = omega (arith, (old_head (take used buf) H.before d.old (under_take 256 used buf B) H.was).1, larger_longer H.before d.count (omega (arith, H.sum)), H.long)

  pub head_short : d.new ≤ 5
  head_short = omega (arith, compact_longest w4 d.count (omega (arith, H.few)), H.long)

module _ {tb : List ℕ} (buf cs : List ℕ) {used k : ℕ} {d : Heads} (B : Under 256 buf) (W : Under (2 ^ 64) cs) (far : length cs * 8 < 2 ^ 63)
    (R : Rooted tb) (h : used ≤ length buf) (H : Headed k (old_count (take used buf)) d) where
  longer : (l : List ℕ) → length (joined_bytes buf used d l) ≡ d.new + (used - d.old) + length l
  longer l =
      omega (arith, length-append (compact_bytes d.count) (drop d.old (take used buf) ++ l), length-append (drop d.old (take used buf)) l, length-drop d.old (take used buf), length-take-le used buf h, H.long)

  -- items never have too little room by themselves
  short_items : (l : List ℕ) (n : ℕ) → put (array k R.item) 0 cs ≡ got l n → length l ≤ 2 ^ 64 - 1
  short_items l n e = let m = put_most (array k R.item) 0 cs l n W e in omega (arith, m.0, m.1)

  appended_within : append tb buf used k cs ≡ within (joined_bytes buf used d) (items_behind (d.new + (used - d.old)) (length buf) (write_items tb k cs (2 ^ 64 - 1)))
  appended_within =
      append_put tb R k cs buf used h H
      ∙ put_within (length cs) (length buf) (d.new + (used - d.old)) (joined_bytes buf used d) (put (array k R.item) 0 cs) longer short_items
      ∙ ap (λ o. within (joined_bytes buf used d) (items_behind (d.new + (used - d.old)) (length buf) o)) (sym (items_put tb R k cs (2 ^ 64 - 1)))

  module _ {q : Written} (e : q ≡ written_of (items_behind (d.new + (used - d.old)) (length buf) (write_items tb k cs (2 ^ 64 - 1)))) where
    pub plan_not : {y : Refusal} → q ≡ Err y → append tb buf used k cs ≡ not y
    plan_not {y} f = appended_within ∙ ap (within (joined_bytes buf used d)) (behind_not (d.new + (used - d.old)) (length buf) (write_items tb k cs (2 ^ 64 - 1)) y (sym f ∙ e))

    pub plan_joins : {n : ℕ} → q ≡ Ok n → Joins tb buf used k cs (record { heads = d; end = d.new + (used - d.old) })
    plan_joins {n} f =
        let O = write_items tb k cs (2 ^ 64 - 1) in
        let b = behind_wrote (d.new + (used - d.old)) (length buf) O n (sym f ∙ e) in
        let P = put (array k R.item) 0 cs in
        record {
          heads = record { there = h; head = head_there buf B h H; grows = head_grows buf B h H; long = H.long; room = omega (arith, b.2) };
          end = refl;
          fits = omega (arith, b.1, b.2);
          written =
              items_put tb R k cs (length buf - (d.new + (used - d.old)))
              ∙ put_narrow (length cs) (2 ^ 64 - 1) (length buf - (d.new + (used - d.old))) P (bytes_of O) (sym (items_put tb R k cs (2 ^ 64 - 1)) ∙ b.0) (omega (arith, b.1, b.2));
          appended =
              appended_within ∙ ap (λ o. within (joined_bytes buf used d) (items_behind (d.new + (used - d.old)) (length buf) o)) b.0
              ∙ ap (within (joined_bytes buf used d)) (behind_fits (d.new + (used - d.old)) (length buf) (bytes_of O) (omega (arith, b.1, b.2)));
        }

-- The numbers 1, 2, 3.., written one by one; those of fewer trips are the first of them.
use mathlib.Core.Path.{◌≡◌, sym, ap, ◌∙◌}
use mathlib.Core.List.{List, [], ◌∷◌, ◌++◌, append-nil}
use Prim.Native.Nat.{ℕ, zero, suc, ◌+◌, ◌-◌, ◌≤◌, ◌<◌}
use native.Mathlib.Omega.{arith}
use lib.ListN.{length, drop, set, drop_of_length-le}
use Rattle.lists.specs.Lists.{range}
use Rattle.lists.specs.Ranges.{length_range}
use Rattle.words.specs.Put.{put, put_front, put_next}

range_split : (k a b : ℕ) → range k (a + b) ≡ range k a ++ range (k + a) b
range_split k zero b =
    let same : k ≡ k + 0 = omega arith in
    let all : 0 + b ≡ b = omega arith in
    λ i. range (same i) (all i)
range_split k (suc a) b =
    let more : suc a + b ≡ suc (a + b) = omega arith in
    let same : suc k + a ≡ k + suc a = omega arith in
    ap (range k) more ∙ ap (λ l. k ∷ l) (range_split (suc k) a b ∙ ap (λ j. range (suc k) a ++ range j b) same)

drop_range : (k a b : ℕ) → drop a (range k (a + b)) ≡ range (k + a) b
drop_range k zero b =
    let same : k ≡ k + 0 = omega arith in
    let all : 0 + b ≡ b = omega arith in
    λ i. range (same i) (all i)
drop_range k (suc a) b =
    let more : suc a + b ≡ suc (a + b) = omega arith in
    let same : suc k + a ≡ k + suc a = omega arith in
    ap (λ m. drop (suc a) (range k m)) more ∙ drop_range (suc k) a b ∙ ap (λ j. range j b) same

pub range_front : (k a n : ℕ) → a ≤ n → put 0 (range k a) (range k n) ≡ range k n
range_front k a n h =
    let all : n ≡ a + (n - a) = omega arith in
    put_front (range k a) (range k n)
    ∙ ap (λ m. range k a ++ drop m (range k n)) (length_range k a)
    ∙ ap (λ m. range k a ++ drop a (range k m)) all
    ∙ ap (λ l. range k a ++ l) (drop_range k a (n - a))
    ∙ sym (range_split k a (n - a))
    ∙ ap (range k) (sym all)

-- ---- the loop: k numbers are written
module _ (numbers old : List ℕ) (k : ℕ) (held : numbers ≡ put 0 (range 1 k) old) (room : length old ≡ 256) where
  pub count_more : k < 256 → set numbers k (k + 1) ≡ put 0 (range 1 (k + 1)) old
  count_more h =
      let last : range 1 (k + 1) ≡ range 1 k ++ ((k + 1) ∷ []) =
      let next : 1 + k ≡ k + 1 = omega arith in
      range_split 1 k 1 ∙ ap (λ j. range 1 k ++ (j ∷ [])) next in
      ap (λ l. set l k (k + 1)) held
      ∙ put_next k (range 1 k) old (k + 1) (length_range 1 k) (omega arith)
      ∙ ap (λ l. put 0 l old) (sym last)

  pub count_done : 256 ≤ k → k ≤ 256 → numbers ≡ range 1 256
  count_done h g =
      let all : k ≡ 256 = omega arith in
      held
      ∙ ap (λ j. put 0 (range 1 j) old) all
      ∙ put_front (range 1 256) old
      ∙ ap (λ m. range 1 256 ++ drop m old) (length_range 1 256 ∙ sym room)
      ∙ ap (λ l. range 1 256 ++ l) (drop_of_length-le old {i = length old} (omega arith))
      ∙ append-nil (range 1 256)

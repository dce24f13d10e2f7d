-- Words that stand within others, and where. A part of a part stands where the part before it ends; rows that follow
-- one another, one for each entry of a list, stand each behind the rows before it.
use Rattle.std.specs.Prelude.{◌≡◌, refl, get_or, take, drop}
use Rattle.std.proofs.Common.{sym, ap, ◌∙◌, length-append, take-append-drop, take_at, drop_at, get_or-append-add}
use Rattle.std.proofs.Math.Path.{subst}
use mathlib.Core.List.{List, [], ◌∷◌, ◌++◌, map, append_assoc}
use Prim.Native.Nat.{ℕ, zero, suc, ◌+◌, ◌*◌, ◌≤◌, ◌<◌}
use native.Mathlib.Omega.{arith}
use Rattle.std.proofs.Math.ListN.{length, get_or-append}
use Rattle.std.proofs.Math.Seq.{slice}
use Rattle.lists.specs.Lists.{concat_map, range}

-- the part's words stand in v from index k on
pub record Stands (part v : List ℕ) (k : ℕ) : Type 0 where
  pub before : List ℕ
  pub past : List ℕ
  pub place : length before ≡ k
  pub is : v ≡ before ++ part ++ past

pub front_stands : (part v : List ℕ) → take (length part) v ≡ part → Stands part v 0
front_stands part v h =
    record {
      before = [];
      past = drop (length part) v;
      place = refl;
      is = sym (take-append-drop (length part) v) ∙ ap (λ r. r ++ drop (length part) v) h;
    }

module _ (part v : List ℕ) (k : ℕ) (s : Stands part v k) where
  up_to : length (s.before ++ part) ≡ k + length part
  up_to = omega (arith, s.place, length-append s.before part)

  pub part_inside : k + length part ≤ length v
  part_inside = omega (arith, up_to, ap length s.is, length-append (s.before ++ part) s.past)

  pub word_at_lem : (j : ℕ) → j < length part → get_or v (k + j) 0 ≡ get_or part j 0
  word_at_lem j h =
      ap (λ r. get_or r (k + j) 0) s.is
      ∙ get_or-append (s.before ++ part) s.past 0 (k + j) (omega (arith, up_to))
      ∙ ap (λ m. get_or (s.before ++ part) (m + j) 0) (sym s.place)
      ∙ get_or-append-add s.before part j 0

  pub part_slice : slice k (k + length part) v ≡ part
  part_slice =
      ap (λ r. slice k (k + length part) r) s.is
      ∙ ap (drop k) (take_at (s.before ++ part) s.past (k + length part) up_to)
      ∙ drop_at s.before part k s.place

-- ---- two parts
module _ (a b v : List ℕ) (k : ℕ) (s : Stands (a ++ b) v k) where
  pub left_stands : Stands a v k
  left_stands =
      record {
        before = s.before;
        past = b ++ s.past;
        place = s.place;
        is = s.is ∙ simp append_assoc;
      }

  pub right_stands : Stands b v (k + length a)
  right_stands =
      record {
        before = s.before ++ a;
        past = s.past;
        place = omega (arith, s.place, length-append s.before a);
        is = s.is ∙ simp append_assoc;
      }

-- ---- rows
module _ {A : Type 0} (f : A → List ℕ) where
  -- how many words stand before the row of the entry at place i
  unfoldable pub row_place : List A → (i : ℕ) → ℕ
  row_place [] i = 0
  row_place (x ∷ l) zero = 0
  row_place (x ∷ l) (suc i) = length (f x) + row_place l i

  pub row_stands : (l : List A) (v : List ℕ) (k i : ℕ) (d : A) → i < length l → Stands (concat_map f l) v k
      → Stands (f (get_or l i d)) v (k + row_place l i)
  unfolding row_place
  row_stands [] v k i d h s = absurd (omega arith)
  row_stands (x ∷ l) v k zero d h s =
      subst (Stands (f x) v) (omega arith) (left_stands (f x) (concat_map f l) v k s)
  row_stands (x ∷ l) v k (suc i) d h s =
      subst (Stands (f (get_or l i d)) v) (omega arith)
      (row_stands l v (k + length (f x)) i d (omega arith) (right_stands (f x) (concat_map f l) v k s))

  pub row_next : (l : List A) (i : ℕ) (d : A) → i < length l
      → row_place l (suc i) ≡ row_place l i + length (f (get_or l i d))
  unfolding row_place
  row_next [] i d h = absurd (omega arith)
  row_next (x ∷ []) zero d h = omega arith
  row_next (x ∷ y ∷ l) zero d h = omega arith
  row_next (x ∷ l) (suc i) d h = omega (arith, row_next l i d (omega arith))

  -- rows of m words each
  pub even_rows : (m : ℕ) → ((x : A) → length (f x) ≡ m) → (l : List A) (i : ℕ) → i < length l → row_place l i ≡ i * m
  unfolding row_place
  even_rows m even [] i h = absurd (omega arith)
  even_rows m even (x ∷ l) zero h = omega arith
  even_rows m even (x ∷ l) (suc i) h = omega (arith, even x, even_rows m even l i (omega arith))

-- ---- entries
pub map_at : {A : Type 0} (f : A → ℕ) (l : List A) (j : ℕ) (d : A) → j < length l
    → get_or (map f l) j 0 ≡ f (get_or l j d)
map_at f [] j d h = absurd (omega arith)
map_at f (x ∷ l) zero d h = refl
map_at f (x ∷ l) (suc j) d h = map_at f l j d (omega arith)

pub range_at : (k n i : ℕ) → i < n → get_or (range k n) i 0 ≡ k + i
range_at k zero i h = absurd (omega arith)
range_at k (suc n) zero h = omega arith
range_at k (suc n) (suc i) h = omega (arith, range_at (suc k) n i (omega arith))

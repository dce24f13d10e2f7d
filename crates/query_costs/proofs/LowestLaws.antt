-- The loops that lower each penalty to the least so far, and look for the first.
use mathlib.Core.Path.{◌≡◌, refl, sym, ap, ◌∙◌}
use mathlib.Core.Bool.{Bool, true, false}
use mathlib.Core.List.{List, [], ◌∷◌, ◌++◌}
use Prim.Native.Nat.{ℕ, zero, suc, ◌+◌, ◌-◌, ◌≤◌, ◌<◌, min}
use native.Mathlib.Numerals.{add-one}
use native.Mathlib.Omega.{arith}
use borrow.Author.Tests.{le-ltb}
use lib.Dec.{ltb}
use lib.ListN.{length, get_or, set, take, drop}
use lib.Seq.{drop-cons, append_snoc, take-suc-set, drop-set-lt}
use Rattle.lists.specs.First.{first_from, first_none, first_here, first_later}
use Rattle.query_minutes.specs.Minutes.{no_points, blank}
use Rattle.query_minutes.specs.Noted.{get_d_any, get_d_blank}
use Rattle.query_costs.specs.declared.Span.{Span}
use Rattle.query_costs.specs.Spans.{Within}
use Rattle.query_costs.specs.Lowest.{lowest}
use Rattle.query_costs.specs.Layering.{first_value, NoneBefore}
use Rattle.query_costs.specs.Falling.{Falls, before_none}

-- ---- the least so far
lowest_one : (least x : ℕ) (l : List ℕ) → lowest least (x ∷ l) ≡ min least x ∷ lowest (min least x) l
unfolding lowest
lowest_one least x l = refl

-- the first k stay where they are d
level_first : (d : ℕ) (l : List ℕ) (k : ℕ) → ((m : ℕ) → m < k → get_or l m d ≡ d)
    → lowest d l ≡ take k l ++ lowest d (drop k l)
unfolding lowest
level_first d [] zero f = refl
level_first d [] (suc k) f = refl
level_first d (x ∷ l) zero f = refl
level_first d (x ∷ l) (suc k) f =
    let same : x ≡ d = f 0 (omega arith) in
    let least : min d x ≡ d = omega (arith, same) in
    rw
    least
    (ap (λ y. y ∷ lowest d l) (sym same)
    ∙ ap (λ r. x ∷ r) (level_first d l k (λ m h. f (suc m) (omega arith))))

-- the span begins
module _ (s : Span) (p : List ℕ) (is : Within s blank p) where
  pub lowest_short : s.to ≤ 2880
  lowest_short = is.short

  pub lowest_first : (k : ℕ) → k ≡ min s.from s.to → lowest no_points p ≡ take k p ++ lowest no_points (drop k p)
  lowest_first k e =
      level_first no_points p k (λ m h. is.below m (omega (arith, e)) ∙ get_d_blank 2880 no_points m)

-- the first m are lowered
module _
    (old p : List ℕ)
    (least m : ℕ)
    (long : length p ≡ 2880)
    (so_far : lowest no_points old ≡ take m p ++ lowest least (drop m p))
  where
    lowest_on : (x to : ℕ) → m < to → to ≤ 2880 → x ≡ min least (get_or p m 0)
        → lowest no_points old ≡ take (m + 1) (set p m x) ++ lowest x (drop (m + 1) (set p m x))
    lowest_on x to h most e =
        so_far
        ∙ ap (λ l. take m p ++ lowest least l) (drop-cons p m 0 (omega (arith, long)))
        ∙ ap (λ l. take m p ++ l) (lowest_one least (get_or p m 0) (drop (suc m) p))
        ∙ ap (λ y. take m p ++ (y ∷ lowest y (drop (suc m) p))) (sym e)
        ∙ sym (append_snoc (take m p) x (lowest x (drop (suc m) p)))
        ∙ ap (λ l. l ++ lowest x (drop (suc m) p)) (sym (take-suc-set p m x (omega (arith, long))))
        ∙ ap (λ l. take (suc m) (set p m x) ++ lowest x l) (sym (drop-set-lt (suc m) p m x (omega arith)))
        ∙ ap (λ k. take k (set p m x) ++ lowest x (drop k (set p m x))) (sym (add-one m))

    pub lowest_more : (next : List ℕ) (x y to : ℕ) → next ≡ set p m x → m < to → to ≤ 2880 → y ≡ get_or p m 0
        → x ≡ min least y → lowest no_points old ≡ take (m + 1) next ++ lowest x (drop (m + 1) next)
    lowest_more next x y to is h most is_y is_x =
        lowest_on x to h most (is_x ∙ ap (min least) is_y)
        ∙ ap (λ l. take (m + 1) l ++ lowest x (drop (m + 1) l)) (sym is)

    -- behind the span nothing has changed yet
    module _ (s : Span) (rest : drop s.to p ≡ drop s.to old) where
      pub rest_same : (next : List ℕ) (x : ℕ) → next ≡ set p m x → m < s.to → drop s.to next ≡ drop s.to old
      rest_same next x e h = ap (drop s.to) e ∙ drop-set-lt s.to p m x h ∙ rest

-- ---- the first minute
-- none of the first m minutes has a penalty
module _
    (p : List ℕ)
    (m : ℕ)
    (so_far : first_value p ≡ first_from (λ k. ltb (get_or p k 0) no_points) m (2880 - m))
  where
    pub none_left : 2880 ≤ m → m ≤ 2880 → 2880 ≡ first_value p
    none_left h g =
        let end : 2880 ≡ m = omega arith in
        end ∙ sym (so_far ∙ first_none (λ k. ltb (get_or p k 0) no_points) m 2880 h)

    module _ (more : m < 2880) (x : ℕ) (is_x : x ≡ get_or p m 0) (r : Bool) (is-r : r ≡ ltb x no_points) where
      test : ltb (get_or p m 0) no_points ≡ r
      test = ap (λ k. ltb k no_points) (sym is_x) ∙ sym is-r

      pub found : r ≡ true → m ≡ first_value p
      found g = sym (so_far ∙ first_here (λ k. ltb (get_or p k 0) no_points) m 2880 more (test ∙ g))

      pub goes_on : r ≡ false
          → first_value p ≡ first_from (λ k. ltb (get_or p k 0) no_points) (m + 1) (2880 - (m + 1))
      goes_on g = so_far ∙ first_later (λ k. ltb (get_or p k 0) no_points) m 2880 more (test ∙ g)

pub looks : (p : List ℕ) → first_value p ≡ first_from (λ k. ltb (get_or p k 0) no_points) 0 (2880 - 0)
unfolding first_value
looks p = refl

-- nothing is to be found where no one is ready
skips : (p : List ℕ) → length p ≡ 2880 → (e : ℕ) → e ≤ 2880 → ((m : ℕ) → m < e → get_or p m no_points ≡ no_points)
    → first_value p ≡ first_from (λ k. ltb (get_or p k 0) no_points) e (2880 - e)
skips p long zero h f = looks p
skips p long (suc e) h f =
    let none = f e (omega arith) in
    let here : no_points ≤ get_or p e 0 = omega (arith, none, get_d_any p e 0 no_points (omega (arith, long))) in
    let before = skips p long e (omega arith) (λ m g. f m (omega arith)) in
    goes_on p e before (omega arith) (get_or p e 0) refl (ltb (get_or p e 0) no_points) refl
    (le-ltb (get_or p e 0) no_points here)
    ∙ ap (λ j. first_from (λ k. ltb (get_or p k 0) no_points) j (2880 - j)) (add-one e)

pub looks_on : (p : List ℕ) (e : ℕ) → length p ≡ 2880 → e ≤ 2880 → NoneBefore e p
    → first_value p ≡ first_from (λ k. ltb (get_or p k 0) no_points) e (2880 - e)
looks_on p e long h n = skips p long e h n.none

-- no one is ready before the first minute noted
pub none_before : (s : Span) (p : List ℕ) → Falls s p → NoneBefore s.from p
none_before s p falls = record { none = before_none s p falls.within }

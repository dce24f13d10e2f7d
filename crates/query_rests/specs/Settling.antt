-- The least word from each index on: who can wait takes the least of what is noted for that minute and all later ones.
use Rattle.std.specs.Prelude.{◌≡◌, not, T, ltb, take, drop}
use Rattle.std.proofs.Math.Path.{refl, sym, ap}
use Rattle.std.proofs.Common.{◌∙◌, ltb→lt, nltb→le, length-append, length-drop, get_or-drop}
use mathlib.Core.List.{List, [], ◌∷◌, ◌++◌}
use Prim.Native.Nat.{ℕ, zero, suc, ◌+◌, ◌-◌, ◌≤◌, ◌<◌, min}
use native.Mathlib.Omega.{arith, min_cases}
use Rattle.std.proofs.Math.ListN.{length, get_or, get_or-append}
use Rattle.std.proofs.Math.Seq.{get_or-take, get_or-append-add, length-take-le}
use Rattle.lists.specs.Tests.{either}

-- the least word, or `top` if it is lower
unfoldable pub least : (top : ℕ) → List ℕ → ℕ
least top [] = top
least top (x ∷ l) = min x (least top l)

-- at each index the least word from there on
unfoldable pub settled : (top : ℕ) → List ℕ → List ℕ
settled top [] = []
settled top (x ∷ l) = min x (least top l) ∷ settled top l

-- so from index t on, and before it as it was
unfoldable pub settled_from : (top t : ℕ) → List ℕ → List ℕ
settled_from top t l = take t l ++ settled top (drop t l)

module _ (top : ℕ) where
  pub length_settled : (l : List ℕ) → length (settled top l) ≡ length l
  unfolding settled
  length_settled [] = refl
  length_settled (x ∷ l) = ap suc (length_settled l)

  pub settled_at : (l : List ℕ) (m : ℕ) → get_or (settled top l) m top ≡ least top (drop m l)
  unfolding settled least
  settled_at [] zero = refl
  settled_at [] (suc m) = refl
  settled_at (x ∷ l) zero = refl
  settled_at (x ∷ l) (suc m) = settled_at l m

  -- no word is lower
  least_low : (l : List ℕ) (k : ℕ) → least top l ≤ get_or l k top
  unfolding least
  least_low [] zero = omega arith
  least_low [] (suc k) = omega arith
  least_low (x ∷ l) zero = omega arith
  least_low (x ∷ l) (suc k) = omega (arith, least_low l k)

  -- it is one of the words, if it is below the top
  least_is : (l : List ℕ) → least top l < top → (k : ℕ) × (get_or l k top ≡ least top l)
  unfolding least
  least_is [] h = absurd (omega arith)
  least_is (x ∷ l) h =
      min_cases
      x
      (least top l)
      ((k : ℕ) × (get_or (x ∷ l) k top ≡ min x (least top l)))
      (λ p q. (0, sym q))
      (λ p q. let r = least_is l (omega arith) in (suc r.0, r.1 ∙ sym q))

  settled_low : (l : List ℕ) (m k : ℕ) → m ≤ k → get_or (settled top l) m top ≤ get_or l k top
  settled_low l m k h =
      let there : m + (k - m) ≡ k = omega arith in
      omega (
        arith,
        settled_at l m,
        least_low (drop m l) (k - m),
        get_or-drop m l (k - m) top ∙ ap (λ i. get_or l i top) there,
      )

  settled_is : (l : List ℕ) (m : ℕ) → get_or (settled top l) m top < top
      → (k : ℕ) × (m ≤ k) × (get_or l k top ≡ get_or (settled top l) m top)
  settled_is l m h =
      let r = least_is (drop m l) (omega (arith, settled_at l m)) in
      (m + r.0, omega arith, sym (get_or-drop m l r.0 top) ∙ r.1 ∙ sym (settled_at l m))

  -- where no word is below the top, nothing changes
  pub least_none : (l : List ℕ) → ((k : ℕ) → get_or l k top ≡ top) → least top l ≡ top
  unfolding least
  least_none [] h = refl
  least_none (x ∷ l) h = omega (arith, h 0, least_none l (λ k. h (suc k)))

  pub settled_none : (l : List ℕ) → ((k : ℕ) → get_or l k top ≡ top) → settled top l ≡ l
  unfolding settled
  settled_none [] h = refl
  settled_none (x ∷ l) h =
      let first : min x (least top l) ≡ x = omega (arith, h 0, least_none l (λ k. h (suc k))) in
      λ i. first i ∷ settled_none l (λ k. h (suc k)) i

  -- ---- from index t on
  module _ (t : ℕ) (l : List ℕ) (inside : t ≤ length l) where
    pub from_kept : (m : ℕ) → m < t → get_or (settled_from top t l) m top ≡ get_or l m top
    unfolding settled_from
    from_kept m h =
        let long = length-take-le t l inside in
        get_or-append (take t l) (settled top (drop t l)) top m (omega (arith, long)) ∙ get_or-take t l m top h

    from_back : (m : ℕ) → t ≤ m → get_or (settled_from top t l) m top ≡ get_or (settled top (drop t l)) (m - t) top
    unfolding settled_from
    from_back m h =
        let there : length (take t l) + (m - t) ≡ m = omega (arith, length-take-le t l inside) in
        ap (λ i. get_or (take t l ++ settled top (drop t l)) i top) (sym there)
        ∙ get_or-append-add (take t l) (settled top (drop t l)) (m - t) top

    behind : (k : ℕ) → t ≤ k → get_or (drop t l) (k - t) top ≡ get_or l k top
    behind k h =
        let there : t + (k - t) ≡ k = omega arith in
        get_or-drop t l (k - t) top ∙ ap (λ i. get_or l i top) there

    pub length_from : length (settled_from top t l) ≡ length l
    unfolding settled_from
    length_from =
        simp (length-append, length_settled, length-drop) (omega (arith, length-take-le t l inside))

    pub from_low : (m k : ℕ) → t ≤ m → m ≤ k → get_or (settled_from top t l) m top ≤ get_or l k top
    from_low m k h g =
        omega (
          arith,
          from_back m h,
          settled_low (drop t l) (m - t) (k - t) (omega arith),
          behind k (omega arith),
        )

    pub from_is : (m : ℕ) → get_or (settled_from top t l) m top < top
        → (k : ℕ) × (m ≤ k) × (get_or l k top ≡ get_or (settled_from top t l) m top)
    from_is m h = either (ltb m t) early late
      where
        early : T (ltb m t) → (k : ℕ) × (m ≤ k) × (get_or l k top ≡ get_or (settled_from top t l) m top)
        early g = (m, omega arith, sym (from_kept m (ltb→lt m t g)))

        late : T (not (ltb m t)) → (k : ℕ) × (m ≤ k) × (get_or l k top ≡ get_or (settled_from top t l) m top)
        late g =
            let k = nltb→le m t g in
            let r = settled_is (drop t l) (m - t) (omega (arith, from_back m k)) in
            (t + r.0, omega (arith, r.1), sym (get_or-drop t l r.0 top) ∙ r.2 ∙ sym (from_back m k))

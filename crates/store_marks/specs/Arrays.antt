-- What passes over some indices of an array leave in it: words that were set, words that fell to the least so far, and
-- a flag that was raised.
use Rattle.std.specs.Prelude.{◌≡◌, Bool, cond, ◌≢◌, ◌⊎◌, ℕ, ◌≤◌, ◌<◌, min, ltb, length, set}
use Rattle.std.proofs.Math.Path.{refl, subst}
use Rattle.std.proofs.Common.{sym, ap, ◌∙◌, inl, inr, arith, ltb→lt, nltb→le, get_or-set_same}
use mathlib.Core.List.Memᴰ
use mathlib.Core.List.Memᴰ.{head as here}
use mathlib.Core.List.Memᴰ.{tail as there}
use mathlib.Core.List.{List, [], ◌∷◌, ◌++◌}
use Rattle.std.proofs.Math.Decide.{ℕ_discrete}
use Rattle.std.proofs.Math.ListN.{get_or, length-set}
use Rattle.std.proofs.Math.Seq.{get_or-set_other}
use Rattle.lists.specs.Lists.{◌∈◌, Distinct}
use Rattle.lists.specs.Tests.{either}
use Rattle.lists.specs.Members.{none, cons_cases}

-- ---- words that were set
module _ (f : ℕ → ℕ) where
  -- x with word g set to f g, for each g of the list
  unfoldable pub fill : List ℕ → List ℕ → List ℕ
  fill [] x = x
  fill (g ∷ l) x = fill l (set x g (f g))

  pub fill_length : (l x : List ℕ) → length (fill l x) ≡ length x
  unfolding fill
  fill_length [] x = refl
  fill_length (g ∷ l) x = fill_length l (set x g (f g)) ∙ length-set x g (f g)

  -- a word that is right already stays
  fill_right : (l x : List ℕ) (g : ℕ) → g < length x → get_or x g 0 ≡ f g → get_or (fill l x) g 0 ≡ f g
  unfolding fill
  fill_right [] x g h e = e
  fill_right (k ∷ l) x g h e = fill_right l (set x k (f k)) g (omega (arith, length-set x k (f k))) right
    where
      right : get_or (set x k (f k)) g 0 ≡ f g
      right =
          elim (ℕ_discrete g k) [
            | yes is ↦ subst (λ j. get_or (set x j (f j)) g 0 ≡ f g) is (get_or-set_same x g (f g) 0 h)
            | no other ↦ get_or-set_other x k g (f k) 0 other ∙ e
          ]

  pub fill_in : (l x : List ℕ) (g : ℕ) → g < length x → g ∈ l → get_or (fill l x) g 0 ≡ f g
  unfolding fill
  fill_in [] x g h m = none m
  fill_in (k ∷ l) x g h m = go (fill_in l (set x k (f k)) g (omega (arith, length-set x k (f k))))
    where
      go : (g ∈ l → get_or (fill l (set x k (f k))) g 0 ≡ f g) → get_or (fill l (set x k (f k))) g 0 ≡ f g
      go ih =
          cons_cases m
          (λ is.
          fill_right l (set x k (f k)) g (omega (arith, length-set x k (f k)))
          (subst (λ j. get_or (set x j (f j)) g 0 ≡ f g) is (get_or-set_same x g (f g) 0 h)))
          ih

  pub fill_out : (l x : List ℕ) (g : ℕ) → ¬ (g ∈ l) → get_or (fill l x) g 0 ≡ get_or x g 0
  unfolding fill
  fill_out [] x g h = refl
  fill_out (k ∷ l) x g h =
      fill_out l (set x k (f k)) g (λ m. h (there m)) ∙ get_or-set_other x k g (f k) 0 (λ e. h (here e))

-- ---- words that fell
-- x where each word of the list, taken in order, is the least of low and of the words up to it
unfoldable pub fall : (low : ℕ) → List ℕ → List ℕ → List ℕ
fall low [] x = x
fall low (g ∷ l) x = fall (min low (get_or x g 0)) l (set x g (min low (get_or x g 0)))

pub fall_out : (l : List ℕ) (low : ℕ) (x : List ℕ) (g : ℕ) → ¬ (g ∈ l) → get_or (fall low l x) g 0 ≡ get_or x g 0
unfolding fall
fall_out [] low x g h = refl
fall_out (k ∷ l) low x g h =
    let m = min low (get_or x k 0) in
    fall_out l m (set x k m) g (λ i. h (there i)) ∙ get_or-set_other x k g m 0 (λ e. h (here e))

-- the words of the list are words of x
abbrev pub Within : List ℕ → List ℕ → Type 0
Within l x = (g : ℕ) → g ∈ l → g < length x

within_set : (l x : List ℕ) (k m : ℕ) → Within (k ∷ l) x → Within l (set x k m)
within_set l x k m h g i = omega (arith, h g (there i), length-set x k m)

-- the word at the head of the list
fall_here : (l : List ℕ) (low : ℕ) (x : List ℕ) (k : ℕ) → Distinct (k ∷ l) → k < length x
    → get_or (fall low (k ∷ l) x) k 0 ≡ min low (get_or x k 0)
unfolding fall
fall_here l low x k d h =
    let m = min low (get_or x k 0) in
    fall_out l m (set x k m) k d.0 ∙ get_or-set_same x k m 0 h

pub fall_top : (l : List ℕ) (low : ℕ) (x : List ℕ) (g : ℕ) → Distinct l → Within l x → g ∈ l
    → get_or (fall low l x) g 0 ≤ low
unfolding fall
fall_top [] low x g d h i = none i
fall_top (k ∷ l) low x g d h i =
    go (fall_top l (min low (get_or x k 0)) (set x k (min low (get_or x k 0))) g d.1 (within_set l x k _ h))
  where
    go : (g ∈ l → get_or (fall (min low (get_or x k 0)) l (set x k (min low (get_or x k 0)))) g 0 ≤ min low
        (get_or x k 0))
        → get_or (fall low (k ∷ l) x) g 0 ≤ low
    go ih =
        cons_cases i
        (λ e. omega (arith, ap (λ j. get_or (fall low (k ∷ l) x) j 0) e, fall_here l low x k d (h k (here refl))))
        (λ j. omega (arith, ih j))

-- g stands in the list at f or behind it
pub record Behind (l : List ℕ) (f g : ℕ) : Type 0 where
  pub front : List ℕ
  pub back : List ℕ
  pub whole : l ≡ front ++ (f ∷ back)
  pub behind : g ∈ f ∷ back

pub behind_later : (k : ℕ) (l : List ℕ) (f g : ℕ) → Behind l f g → Behind (k ∷ l) f g
behind_later k l f g b =
    record { front = k ∷ b.front; back = b.back; whole = ap (λ r. k ∷ r) b.whole; behind = b.behind }

pub behind_in : (l : List ℕ) (f g : ℕ) → Behind l f g → f ∈ l
behind_in l f g b = subst (λ r. f ∈ r) (sym b.whole) (Memᴰ.append_right b.front (here refl))

-- no word is more than one that stands no later
fall_split : (xs ys : List ℕ) (low : ℕ) (x : List ℕ) (f g : ℕ) → Distinct (xs ++ (f ∷ ys))
    → Within (xs ++ (f ∷ ys)) x → g ∈ f ∷ ys → get_or (fall low (xs ++ (f ∷ ys)) x) g 0 ≤ get_or x f 0
unfolding fall
fall_split [] ys low x f g d h i =
    let m = min low (get_or x f 0) in
    cons_cases i
    (λ e. omega (arith, ap (λ j. get_or (fall low (f ∷ ys) x) j 0) e, fall_here ys low x f d (h f (here refl))))
    (λ j. omega (arith, fall_top ys m (set x f m) g d.1 (within_set ys x f m h) j))
fall_split (k ∷ xs) ys low x f g d h i =
    let m = min low (get_or x k 0) in
    let other : f ≢ k = (λ e. d.0 (Memᴰ.cast (sym e) (Memᴰ.append_right xs (here refl)))) in
    omega (
      arith,
      fall_split xs ys m (set x k m) f g d.1 (within_set (xs ++ (f ∷ ys)) x k m h) i,
      get_or-set_other x k f m 0 other,
    )

pub fall_below : (l : List ℕ) (low : ℕ) (x : List ℕ) (f g : ℕ) → Distinct l → Within l x → Behind l f g
    → get_or (fall low l x) g 0 ≤ get_or x f 0
fall_below l low x f g d h b =
    rw b.whole
    (fall_split b.front b.back low x f g (rw b.whole at d) (rw b.whole at h) b.behind)

-- each word is low, or one that stands no later
pub record From (l x : List ℕ) (g v : ℕ) : Type 0 where
  pub f : ℕ
  pub behind : Behind l f g
  pub is : v ≡ get_or x f 0

min_cases : (a b : ℕ) → (min a b ≡ a) ⊎ (min a b ≡ b)
min_cases a b =
    either
    (ltb a b)
    (λ t. inl (omega (arith, ltb→lt a b t)))
    (λ t. inr (omega (arith, nltb→le a b t)))

pub fall_from : (l : List ℕ) (low : ℕ) (x : List ℕ) (g : ℕ) → Distinct l → Within l x → g ∈ l
    → (get_or (fall low l x) g 0 ≡ low) ⊎ From l x g (get_or (fall low l x) g 0)
unfolding fall
fall_from [] low x g d h i = none i
fall_from (k ∷ l) low x g d h i = go (fall_from l m (set x k m) g d.1 (within_set l x k m h))
  where
    m : ℕ
    m = min low (get_or x k 0)

    v : ℕ
    v = get_or (fall low (k ∷ l) x) g 0

    -- the least so far
    so_far : v ≡ m → (v ≡ low) ⊎ From (k ∷ l) x g v
    so_far e =
        elim (min_cases low (get_or x k 0)) [
          | inl a ↦ inl (e ∙ a)
          | inr a ↦
              inr
              (record {
                f = k;
                behind = record { front = []; back = l; whole = refl; behind = i };
                is = e ∙ a;
              })
        ]

    later : From l (set x k m) g v → From (k ∷ l) x g v
    later r =
        let other : r.f ≢ k = (λ e. d.0 (Memᴰ.cast (sym e) (behind_in l r.f g r.behind))) in
        record {
          f = r.f;
          behind = behind_later k l r.f g r.behind;
          is = r.is ∙ get_or-set_other x k r.f m 0 other;
        }

    go : (g ∈ l → (v ≡ m) ⊎ From l (set x k m) g v) → (v ≡ low) ⊎ From (k ∷ l) x g v
    go ih =
        cons_cases i
        (λ e. so_far (ap (λ j. get_or (fall low (k ∷ l) x) j 0) e ∙ fall_here l low x k d (h k (here refl))))
        (λ j. elim (ih j) [ inl e ↦ so_far e | inr r ↦ inr (later r) ])

-- ---- a flag that was raised
-- l with word k set to 1, if the test passes
unfoldable pub raised : (test : Bool) (k : ℕ) → List ℕ → List ℕ
raised b k l = cond b (set l k 1) l

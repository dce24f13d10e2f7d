-- Sequences, their beginnings, and the place of one in a list.
use Rattle.std.specs.Prelude.{◌≡◌, refl, Bool, true, false, ◌≢◌, List, [], ◌∷◌, ◌++◌, ℕ, suc, ◌+◌, ◌*◌, ◌≤◌, ◌<◌, T}
use Rattle.std.specs.Prelude.{length, get_or}
use Rattle.std.proofs.Common.{sym, ap, subst, ◌∙◌, append_assoc, arith}
use mathlib.Core.List.Memᴰ
use mathlib.Core.List.Memᴰ.{head as here}
use mathlib.Core.List.Memᴰ.{tail as there}
use Rattle.lists.specs.Lists.{◌∈◌, same}
use Rattle.lists.specs.Members.{none, cons_cases, same_eq, same_refl}
use Rattle.lists.specs.Pigeonhole.{Within}
use Rattle.stores.specs.Words.{beginnings, front, final, count, place}

-- two stations for each change, and then the target
abbrev pub Odd : List ℕ → Type 0
Odd [] = ⊥
Odd (x ∷ []) = Unit {0}
Odd (x ∷ y ∷ q) = Odd q

-- two stations for each change
abbrev pub Even : List ℕ → Type 0
Even [] = Unit {0}
Even (x ∷ []) = ⊥
Even (x ∷ y ∷ q) = Even q

pub odd_length : (q : List ℕ) → Odd q → (k : ℕ) × (length q ≡ 2 * k + 1)
odd_length [] o = absurd o
odd_length (x ∷ []) o = (0, refl)
odd_length (x ∷ y ∷ q) o = let r = odd_length q o in (suc r.0, omega (arith, r.1))

pub odd_full : (q : List ℕ) → Odd q → q ≢ []
odd_full [] o e = o
odd_full (x ∷ q) o e = omega (arith, ap length e)

-- changes, and then a target
pub even_odd : (q : List ℕ) (b : ℕ) → Even q → Odd (q ++ (b ∷ []))
even_odd [] b o = tt
even_odd (x ∷ []) b o = absurd o
even_odd (x ∷ y ∷ q) b o = even_odd q b o

-- and one change more
pub even_more : (q : List ℕ) (b c : ℕ) → Even q → Even (q ++ (b ∷ c ∷ []))
even_more [] b c o = tt
even_more (x ∷ []) b c o = absurd o
even_more (x ∷ y ∷ q) b c o = even_more q b c o

pub rejoin : (x : ℕ) (q : List ℕ) → front (x ∷ q) ++ (final (x ∷ q) ∷ []) ≡ x ∷ q
rejoin x [] = refl
rejoin x (y ∷ q) = ap (λ l. x ∷ l) (rejoin y q)

pub rejoin_two : (x y : ℕ) (q : List ℕ)
    → front (front (x ∷ y ∷ q)) ++ (final (front (x ∷ y ∷ q)) ∷ final (x ∷ y ∷ q) ∷ []) ≡ x ∷ y ∷ q
rejoin_two x y q =
    let before = front (y ∷ q) in
    sym (append_assoc (front (x ∷ before)) (final (x ∷ before) ∷ []) (final (y ∷ q) ∷ []))
    ∙ ap (λ l. l ++ (final (y ∷ q) ∷ [])) (rejoin x before)
    ∙ rejoin x (y ∷ q)

pub front_shorter : (x : ℕ) (q : List ℕ) → length (front (x ∷ q)) ≡ length q
front_shorter x [] = refl
front_shorter x (y ∷ q) = ap suc (front_shorter y q)

-- what a sequence is without its last change is shorter
pub before_shorter : (q : List ℕ) → q ≢ [] → length (front (front q)) < length q
before_shorter [] h = absurd (h refl)
before_shorter (x ∷ []) h = omega arith
before_shorter (x ∷ y ∷ q) h = omega (arith, front_shorter x (front (y ∷ q)), front_shorter y q)

front_two : (x y : ℕ) (q : List ℕ) → q ≢ [] → front (x ∷ y ∷ q) ≡ x ∷ y ∷ front q
front_two x y [] h = absurd (h refl)
front_two x y (z ∷ q) h = refl

before_two : (x y : ℕ) (q : List ℕ) → q ≢ [] → Even q → front (front (x ∷ y ∷ q)) ≡ x ∷ y ∷ front (front q)
before_two x y [] h o = absurd (h refl)
before_two x y (z ∷ []) h o = absurd o
before_two x y (z ∷ u ∷ q) h o = refl

front_in : (z : ℕ) (q : List ℕ) → z ∈ front q → z ∈ q
front_in z [] m = m
front_in z (x ∷ []) m = none m
front_in z (x ∷ y ∷ q) m = cons_cases m here (λ i. there (front_in z (y ∷ q) i))

final_in : (x : ℕ) (q : List ℕ) → final (x ∷ q) ∈ x ∷ q
final_in x [] = here refl
final_in x (y ∷ q) = there (final_in y q)

-- the last of a sequence of listed stations is listed
pub final_within : (k : ℕ) (q : List ℕ) → q ≢ [] → Within k q → (1 ≤ final q) × (final q ≤ k)
final_within k [] h w = absurd (h refl)
final_within k (x ∷ q) h w = w (final (x ∷ q)) (final_in x q)

-- and so is the station alighted at before it
pub alighted_within : (k : ℕ) (q : List ℕ) → q ≢ [] → Even q → Within k q
    → (1 ≤ final (front q)) × (final (front q) ≤ k)
alighted_within k [] h o w = absurd (h refl)
alighted_within k (x ∷ []) h o w = absurd o
alighted_within k (x ∷ y ∷ q) h o w =
    w
    (final (x ∷ front (y ∷ q)))
    (front_in (final (x ∷ front (y ∷ q))) (x ∷ y ∷ q) (final_in x (front (y ∷ q))))

-- cases on a beginning of a sequence of two or more
begin_cases : {G : Type 0} (q : List ℕ) (x y : ℕ) (p : List ℕ) → q ∈ beginnings (x ∷ y ∷ p)
    → (q ≡ x ∷ y ∷ [] → G) → ((r : List ℕ) → r ∈ beginnings p → x ∷ y ∷ r ≡ q → G) → G
begin_cases q x y p m f g =
    cons_cases m f (λ k. (let r = Memᴰ.of_map (λ l. x ∷ y ∷ l) (beginnings p) k in g r.0 r.1 r.2))

pub begin_nonempty : (q p : List ℕ) → q ∈ beginnings p → q ≢ []
begin_nonempty q [] m e = none m
begin_nonempty q (x ∷ []) m e = none m
begin_nonempty q (x ∷ y ∷ p) m e =
    let l = ap length e in
    begin_cases q x y p m (λ h. omega (arith, ap length h)) (λ r i h. omega (arith, ap length h))

-- a beginning names changes alone
pub begin_even : (q p : List ℕ) → q ∈ beginnings p → Even q
begin_even q [] m = none m
begin_even q (x ∷ []) m = none m
begin_even q (x ∷ y ∷ p) m =
    begin_cases q x y p m (λ e. subst Even (sym e) tt) (λ r i e. subst Even e (begin_even r p i))

-- a change before a beginning, or before nothing, is a beginning
begin_cons : (x y : ℕ) (p q : List ℕ) → q ∈ [] ∷ beginnings p → x ∷ y ∷ q ∈ [] ∷ beginnings (x ∷ y ∷ p)
begin_cons x y p q m =
    cons_cases m (λ e. there (here (ap (λ l. x ∷ y ∷ l) e))) (λ k. there (there (Memᴰ.map (λ l. x ∷ y ∷ l) k)))

-- a sequence without its target is a beginning of it, or empty
pub begin_front : (p : List ℕ) → Odd p → front p ∈ [] ∷ beginnings p
begin_front [] o = absurd o
begin_front (x ∷ []) o = here refl
begin_front (x ∷ y ∷ p) o =
    Memᴰ.cast (front_two x y p (odd_full p o)) (begin_cons x y p (front p) (begin_front p o))

-- and so is a beginning without its last change
pub begin_closed : (q p : List ℕ) → q ∈ beginnings p → front (front q) ∈ [] ∷ beginnings p
begin_closed q [] m = none m
begin_closed q (x ∷ []) m = none m
begin_closed q (x ∷ y ∷ p) m =
    begin_cases q x y p m (λ e. here (ap (λ l. front (front l)) e)) (λ r i e. next r i e (begin_closed r p i))
  where
    next : (r : List ℕ) → r ∈ beginnings p → x ∷ y ∷ r ≡ q → front (front r) ∈ [] ∷ beginnings p
        → front (front q) ∈ [] ∷ beginnings (x ∷ y ∷ p)
    next r i e ih =
        Memᴰ.cast
        (ap (λ l. front (front l)) (sym e) ∙ before_two x y r (begin_nonempty r p i) (begin_even r p i))
        (begin_cons x y p (front (front r)) ih)

pub begin_within : (k : ℕ) (q p : List ℕ) → q ∈ beginnings p → Within k p → Within k q
begin_within k q [] m w = none m
begin_within k q (x ∷ []) m w = none m
begin_within k q (x ∷ y ∷ p) m w = go (λ r i. begin_within k r p i (λ z u. w z (there (there u))))
  where
    go : ((r : List ℕ) → r ∈ beginnings p → Within k r) → Within k q
    go ih z i =
        begin_cases
        q
        x
        y
        p
        m
        (λ e. pair (rw e at i) none)
        (λ r j e. pair (rw (← e) at i) (ih r j z))
      where
        pair : {r : List ℕ} → z ∈ x ∷ y ∷ r → (z ∈ r → (1 ≤ z) × (z ≤ k)) → (1 ≤ z) × (z ≤ k)
        pair i f = cons_cases i (λ u. w z (here u)) (λ j. cons_cases j (λ u. w z (there (here u))) f)

-- Places: whoever is in a list stands at its place, and what is behind the list changes no place in it.
module _ (q : List ℕ) where
  apart : (p : List ℕ) {G : Type 0} → same q p ≡ false → q ≡ p → G
  apart p e h = absurd (subst T e (subst (λ z. T (same q z)) h (same_refl q)))

  pub place_get : (l : List (List ℕ)) → q ∈ l → get_or l (place q l) [] ≡ q
  place_get [] m = none m
  place_get (p ∷ l) m = go (same q p) refl (place_get l)
    where
      go : (b : Bool) → same q p ≡ b → (q ∈ l → get_or l (place q l) [] ≡ q)
          → get_or (p ∷ l) (count b (place q l)) [] ≡ q
      go true e ih = sym (same_eq q p (rw e tt))
      go false e ih = cons_cases m (apart p e) ih

  pub place_append : (l m : List (List ℕ)) → q ∈ l → place q (l ++ m) ≡ place q l
  place_append [] m h = none h
  place_append (p ∷ l) m h = go (same q p) refl (place_append l m)
    where
      go : (b : Bool) → same q p ≡ b → (q ∈ l → place q (l ++ m) ≡ place q l)
          → count b (place q (l ++ m)) ≡ count b (place q l)
      go true e ih = refl
      go false e ih = cons_cases h (apart p e) (λ k. ap suc (ih k))

  pub place_bound : (l : List (List ℕ)) → q ∈ l → place q l < length l
  place_bound [] h = none h
  place_bound (p ∷ l) h = go (same q p) refl (place_bound l)
    where
      go : (b : Bool) → same q p ≡ b → (q ∈ l → place q l < length l) → count b (place q l) < suc (length l)
      go true e ih = omega arith
      go false e ih = cons_cases h (apart p e) (λ k. omega (arith, ih k))

-- What is in a list that was filtered, mapped, joined or counted: for each way of making a list one law in and one out.
use Rattle.std.specs.Prelude.{◌≡◌, refl, Bool, true, false, ◌⊎◌, List, [], ◌∷◌, ◌++◌, map, ℕ, zero, suc, ◌+◌, ◌≤◌, ◌<◌}
use Rattle.std.specs.Prelude.{T, length}
use Rattle.std.proofs.Common.{sym, ap, ◌∙◌, inl, inr, append_assoc, arith}
use mathlib.Core.List.Memᴰ
use mathlib.Core.List.Memᴰ.{head as here}
use mathlib.Core.List.Memᴰ.{tail as there}
use Rattle.std.proofs.Math.Decide.{ℕ_discrete}
use Rattle.std.proofs.Math.Dec.{eqb_refl}
use Rattle.lists.specs.Lists.{◌∈◌, keep, filter, any, end_with, first_of, concat_map, range, same}
use Rattle.lists.specs.Tests.{reads, T_both, T_right, T_or_left, T_or_right, T_or_cases}

module _ {A : Type 0} where
  -- cases on a member of a list that begins with y
  pub cons_cases {ℓ} : {G : Type ℓ} {x y : A} {l : List A} → x ∈ y ∷ l → (x ≡ y → G) → (x ∈ l → G) → G
  cons_cases m f g = elim (Memᴰ.cases_cons m) [ inl e ↦ f e | inr k ↦ g k ]

  pub append_cases {ℓ} : {G : Type ℓ} {x : A} (l : List A) {k : List A} → x ∈ l ++ k → (x ∈ l → G) → (x ∈ k → G) → G
  append_cases l m f g = elim (Memᴰ.append_cases l m) [ inl i ↦ f i | inr i ↦ g i ]

  pub none : {G : Type 0} {x : A} → x ∈ [] → G
  none m = absurd (Memᴰ.not-nil m)

  keep_cases : {x y : A} {l : List A} (b : Bool) → x ∈ keep b y l → ((x ≡ y) × T b) ⊎ x ∈ l
  keep_cases true m = cons_cases m (λ e. inl (e, tt)) inr
  keep_cases false m = inr m

  pub keep_here : {x y : A} (l : List A) (b : Bool) → x ≡ y → T b → x ∈ keep b y l
  keep_here l true e t = here e
  keep_here l false e t = absurd t

  pub keep_there : {x : A} {l : List A} (y : A) (b : Bool) → x ∈ l → x ∈ keep b y l
  keep_there y true m = there m
  keep_there y false m = m

  -- cases on a member of a list that may begin with y
  pub kept_cases {ℓ} : {G : Type ℓ} {x y : A} {l : List A} (b : Bool)
      → x ∈ keep b y l → (x ≡ y → T b → G) → (x ∈ l → G) → G
  kept_cases b m f g = elim (keep_cases b m) [ inl h ↦ f h.0 h.1 | inr h ↦ g h ]

  pub filter_out : {x : A} (p : A → Bool) (l : List A) → x ∈ filter p l → (x ∈ l) × T (p x)
  filter_out p [] m = none m
  filter_out {x} p (y ∷ l) m = step (filter_out p l)
    where
      step : (x ∈ filter p l → (x ∈ l) × T (p x)) → (x ∈ y ∷ l) × T (p x)
      step ih = kept_cases (p y) m (λ e t. (here e, rw e t)) (λ i. (there (ih i).0, (ih i).1))

  pub filter_few : (p : A → Bool) (l : List A) → length (filter p l) ≤ length l
  filter_few p [] = omega arith
  filter_few p (x ∷ l) = go (p x) (filter_few p l)
    where
      go : (b : Bool) → length (filter p l) ≤ length l → length (keep b x (filter p l)) ≤ suc (length l)
      go true h = omega arith
      go false h = omega arith

  pub filter_in : {x : A} (p : A → Bool) {l : List A} → x ∈ l → T (p x) → x ∈ filter p l
  filter_in p (here {x = y} {xs = l} e) t = keep_here (filter p l) (p y) e (rw e at t)
  filter_in p (there {x = y} m) t = keep_there y (p y) (filter_in p m t)

  pub any_out : (p : A → Bool) (l : List A) → T (any p l) → (x : A) × (x ∈ l) × T (p x)
  any_out p [] t = absurd t
  any_out p (y ∷ l) t = step (any_out p l) (T_or_cases (p y) (any p l) t)
    where
      step : (T (any p l) → (x : A) × (x ∈ l) × T (p x)) → T (p y) ⊎ T (any p l) → (x : A) × (x ∈ y ∷ l) × T (p x)
      step ih (inl s) = (y, here refl, s)
      step ih (inr s) = let r = ih s in (r.0, there r.1, r.2)

  pub any_in : {x : A} (p : A → Bool) {l : List A} → x ∈ l → T (p x) → T (any p l)
  any_in p (here {x = y} {xs = l} e) t = T_or_left (p y) (any p l) (rw e at t)
  any_in p (there {x = y} {xs = l} m) t = T_or_right (p y) (any p l) (any_in p m t)

  pub first_out : {x : A} (p : A → Bool) (l : List A) → x ∈ first_of p l → (x ∈ l) × T (p x)
  first_out p [] m = none m
  first_out {x} p (y ∷ l) m = step (p y) refl m (first_out p l)
    where
      step : (b : Bool) → p y ≡ b → x ∈ end_with b y (first_of p l) → (x ∈ first_of p l → (x ∈ l) × T (p x))
          → (x ∈ y ∷ l) × T (p x)
      step true e i ih = let q = Memᴰ.eq_of_singleton i in (here q, rw (q, e) tt)
      step false e i ih = (there (ih i).0, (ih i).1)

module _ {A B : Type 0} where
  pub concat_map_out : {b : B} (f : A → List B) (l : List A) → b ∈ concat_map f l → (a : A) × (a ∈ l) × (b ∈ f a)
  concat_map_out f [] m = none m
  concat_map_out {b} f (x ∷ l) m = step (concat_map_out f l)
    where
      step : (b ∈ concat_map f l → (a : A) × (a ∈ l) × (b ∈ f a)) → (a : A) × (a ∈ x ∷ l) × (b ∈ f a)
      step ih = append_cases (f x) m (λ i. (x, here refl, i)) (λ i. (let r = ih i in (r.0, there r.1, r.2)))

  pub concat_map_in : {a : A} {b : B} (f : A → List B) {l : List A} → a ∈ l → b ∈ f a → b ∈ concat_map f l
  concat_map_in f (here {x = y} {xs = l} e) h = Memᴰ.append_left (concat_map f l) (rw e at h)
  concat_map_in f (there {x = y} m) h = Memᴰ.append_right (f y) (concat_map_in f m h)

  -- a map keeps one list inside another
  pub map_inside : (f : A → B) (l k : List A)
      → ((a : A) → a ∈ l → a ∈ k) → (b : B) → b ∈ map f l → b ∈ map f k
  map_inside f l k h b m = let r = Memᴰ.of_map f l m in Memᴰ.cast (sym r.2) (Memᴰ.map f (h r.0 r.1))

pub range_in : (i k x : ℕ) → i ≤ x → x < i + k → x ∈ range i k
range_in i zero x h g = absurd (omega arith)
range_in i (suc k) x h g =
    elim (ℕ_discrete x i) [ yes e ↦ here e | no e ↦ there (range_in (suc i) k x (omega arith) (omega arith)) ]

pub range_out : (i k x : ℕ) → x ∈ range i k → (i ≤ x) × (x < i + k)
range_out i zero x m = none m
range_out i (suc k) x m = cons_cases m (λ e. omega arith) (λ h. omega (arith, range_out (suc i) k x h))

pub same_eq : (x y : List ℕ) → T (same x y) → x ≡ y
same_eq [] [] t = refl
same_eq [] (y ∷ ys) t = absurd t
same_eq (x ∷ xs) [] t = absurd t
same_eq (x ∷ xs) (y ∷ ys) t =
    let e : x ≡ y = search reads in cc (e, same_eq xs ys (search T_right))

pub same_refl : (x : List ℕ) → T (same x x)
same_refl [] = tt
same_refl (x ∷ xs) = search (T_both, eqb_refl x, same_refl xs)

-- lists joined, those of one list after those of another
pub concat_append : (l m : List (List ℕ)) → concat_map (λ q. q) (l ++ m) ≡ concat_map (λ q. q) l ++ concat_map (λ q. q)
    m
concat_append [] m = refl
concat_append (x ∷ l) m =
    ap (λ u. x ++ u) (concat_append l m) ∙ sym (append_assoc x (concat_map (λ q. q) l) (concat_map (λ q. q) m))

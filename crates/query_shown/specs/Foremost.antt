-- The one of a list whose key comes before those of all others, found one after the other.
use Rattle.std.specs.Prelude.{◌≡◌, refl, not, cond, ◌⊎◌, ℕ, T}
use Rattle.std.proofs.Common.{◌∙◌, inr, T_not}
use Rattle.std.proofs.Math.Logic.{inl}
use mathlib.Core.List.Memᴰ.{head as here}
use mathlib.Core.List.Memᴰ.{tail as there}
use mathlib.Core.List.{List, [], ◌∷◌}
use Rattle.lists.specs.Lists.{◌∈◌, before}
use Rattle.lists.specs.Tests.{either, T_true, T_false}
use Rattle.lists.specs.Members.{none, cons_cases}
use Rattle.lists.specs.Order.{before_irrefl, before_trans, not_before_trans}

module _ {A : Type 0} (key : A → List ℕ) where
  -- of two the one that comes before the other
  abbrev pub former : (f g : A) → A
  former f g = cond (before (key g) (key f)) g f

  -- of f and a list the one that comes before all others
  unfoldable pub foremost : A → List A → A
  foremost f [] = f
  foremost f (r ∷ l) = foremost (former f r) l

  module _ (f g : A) where
    former_old : ¬ T (before (key f) (key (former f g)))
    former_old = either (before (key g) (key f)) takes stays
      where
        takes : T (before (key g) (key f)) → ¬ T (before (key f) (key (former f g)))
        takes t =
            rw
            (T_true (before (key g) (key f)) t)
            (λ s. before_irrefl (key f) (before_trans (key f) (key g) (key f) s t))

        stays : T (not (before (key g) (key f))) → ¬ T (before (key f) (key (former f g)))
        stays t = rw (T_false (before (key g) (key f)) t) (before_irrefl (key f))

    former_new : ¬ T (before (key g) (key (former f g)))
    former_new = either (before (key g) (key f)) takes stays
      where
        takes : T (before (key g) (key f)) → ¬ T (before (key g) (key (former f g)))
        takes t = rw (T_true (before (key g) (key f)) t) (before_irrefl (key g))

        stays : T (not (before (key g) (key f))) → ¬ T (before (key g) (key (former f g)))
        stays t = rw (T_false (before (key g) (key f)) t) (T_not (before (key g) (key f)) t)

    former_one : (former f g ≡ f) ⊎ (former f g ≡ g)
    former_one =
        either
        (before (key g) (key f))
        (λ t. inr (rw (T_true (before (key g) (key f)) t)))
        (λ t. inl (rw (T_false (before (key g) (key f)) t)))

  -- none of them comes before one
  record First (f : A) (l : List A) (one : A) : Type 0 where
    member : (one ≡ f) ⊎ one ∈ l
    unbeaten : ¬ T (before (key f) (key one))
    first : (r : A) → r ∈ l → ¬ T (before (key r) (key one))

  first_foremost : (l : List A) (f : A) → First f l (foremost f l)
  unfolding foremost
  first_foremost [] f = record { member = inl refl; unbeaten = before_irrefl (key f); first = λ r m. none m }
  first_foremost (r ∷ l) f = go (first_foremost l (former f r))
    where
      one : A
      one = foremost (former f r) l

      go : First (former f r) l one → First f (r ∷ l) one
      go s = record { member = member; unbeaten = behind f (former_old f r); first = first }
        where
          behind : (e : A) → ¬ T (before (key e) (key (former f r))) → ¬ T (before (key e) (key one))
          behind e t = not_before_trans (key e) (key (former f r)) (key one) t s.unbeaten

          member : (one ≡ f) ⊎ one ∈ r ∷ l
          member =
              elim s.member [
                | inl e ↦ elim (former_one f r) [ inl q ↦ inl (e ∙ q) | inr q ↦ inr (here (e ∙ q)) ]
                | inr i ↦ inr (there i)
              ]

          first : (e : A) → e ∈ r ∷ l → ¬ T (before (key e) (key one))
          first e i = cons_cases i (λ q. rw q (behind r (former_new f r))) (s.first e)

  -- one of the list, before which none of the list comes
  pub record Leading (l : List A) (one : A) : Type 0 where
    pub member : one ∈ l
    pub first : (r : A) → r ∈ l → ¬ T (before (key r) (key one))

  -- where each of the list comes before f: f if the list is empty, and else one that leads
  pub foremost_cases : (l : List A) (f : A) → ((r : A) → r ∈ l → T (before (key r) (key f)))
      → ((foremost f l ≡ f) × ((r : A) → ¬ (r ∈ l))) ⊎ Leading l (foremost f l)
  foremost_cases l f h = go s.member
    where
      s : First f l (foremost f l)
      s = first_foremost l f

      go : (foremost f l ≡ f) ⊎ foremost f l ∈ l
          → ((foremost f l ≡ f) × ((r : A) → ¬ (r ∈ l))) ⊎ Leading l (foremost f l)
      go (inl e) = inl (e, λ r m. s.first r m (rw e (h r m)))
      go (inr m) = inr (record { member = m; first = s.first })

-- Two lists are the same where their first words are, and the rest is.
use mathlib.Core.Path.{◌≡◌, refl, sym, ◌∙◌}
use mathlib.Core.Bool.{Bool, true, false, not}
use mathlib.Core.List.{List}
use Prim.Native.Nat.{ℕ, ◌+◌, ◌≤◌, ◌<◌}
use native.Mathlib.Numerals.{add-one}
use native.Mathlib.Omega.{arith}
use native.Mathlib.Decide.{ℕ_discrete}
use borrow.Author.Tests.{eq-eqb, ne_eqb}
use lib.Dec.{eqb}
use lib.ListN.{length, get_or, take, drop, drop_of_length-le}
use lib.Seq.{length-take-le}
use Rattle.std.specs.Int.{from_bool}
use Rattle.lists.specs.Lists.{same}
use Rattle.lists.specs.Places.{drop_taken}

module _ (a b : List ℕ) (n i : ℕ) (long-a : n ≤ length a) (long-b : n ≤ length b)
    (so_far : same (take n a) (take n b) ≡ same (drop i (take n a)) (drop i (take n b))) where
  module _ (x : ℕ) (h : i < n) (read : x ≡ get_or b i 0) where
    differs : (get_or a i 0 ≡ x → ⊥) → false ≡ same (take n a) (take n b)
    differs ne =
        sym
        (so_far
        ∙ rw (drop_taken n i a long-a h, drop_taken n i b long-b h, ← read, ne_eqb (get_or a i 0) x ne))

    agrees : get_or a i 0 ≡ x
        → same (take n a) (take n b) ≡ same (drop (i + 1) (take n a)) (drop (i + 1) (take n b))
    agrees e =
        so_far ∙ rw (drop_taken n i a long-a h, drop_taken n i b long-b h, ← read, eq-eqb (get_or a i 0) x e, add-one i)

  all_agree : n ≤ i → true ≡ same (take n a) (take n b)
  all_agree h =
      sym
      (so_far
      ∙ rw (
        drop_of_length-le (take n a) {i = i} (omega (arith, length-take-le n a long-a)),
        drop_of_length-le (take n b) {i = i} (omega (arith, length-take-le n b long-b)),
      ))

-- Of the first i words so many differ: if none, all depends on those from i on.
pub record Counted (a b : List ℕ) (n i others : ℕ) : Type 0 where
  pub none : others ≡ 0 → same (take n a) (take n b) ≡ same (drop i (take n a)) (drop i (take n b))
  pub some : 1 ≤ others → same (take n a) (take n b) ≡ false

pub counted_none : (a b : List ℕ) (n : ℕ) → Counted a b n 0 0
counted_none a b n = record { none = λ e. refl; some = λ h. absurd (omega arith) }

module _ (a b : List ℕ) (n i others : ℕ) (long-a : n ≤ length a) (long-b : n ≤ length b)
    (k : Counted a b n i others) where
  pub counted_more : (x d : ℕ) → i < n → x ≡ get_or b i 0 → d ≡ from_bool (not (eqb (get_or a i 0) x))
      → Counted a b n (i + 1) (others + d)
  counted_more x d h read is = elim (ℕ_discrete (get_or a i 0) x) [ yes e ↦ alike e | no e ↦ unlike e ]
    where
      alike : get_or a i 0 ≡ x → Counted a b n (i + 1) (others + d)
      alike e =
          let zero : d ≡ 0 = is ∙ rw (eq-eqb (get_or a i 0) x e) in
          record {
            none = λ f. agrees a b n i long-a long-b (k.none (omega (arith, f, zero))) x h read e;
            some = λ g. k.some (omega (arith, g, zero));
          }

      unlike : (get_or a i 0 ≡ x → ⊥) → Counted a b n (i + 1) (others + d)
      unlike e =
          let one : d ≡ 1 = is ∙ rw (ne_eqb (get_or a i 0) x e) in
          record {
            none = λ f. absurd (omega (arith, f, one));
            some =
                λ g.
                elim (ℕ_discrete others 0) [
                  | yes f ↦ sym (differs a b n i long-a long-b (k.none f) x h read e)
                  | no f ↦ k.some (omega (arith, f))
                ];
          }

  pub counted_all : (r : Bool) → n ≤ i → r ≡ eqb others 0 → r ≡ same (take n a) (take n b)
  counted_all r h is =
      elim (ℕ_discrete others 0) [
        | yes e ↦ is ∙ eq-eqb others 0 e ∙ all_agree a b n i long-a long-b (k.none e) h
        | no e ↦ is ∙ ne_eqb others 0 e ∙ sym (k.some (omega (arith, e)))
      ]

-- Raising words by one: those up to an index are raised, and a turn of the loop raises one more.
use mathlib.Core.Path.{◌≡◌, refl, sym, ap, subst, ◌∙◌}
use mathlib.Core.List.Memᴰ
use mathlib.Core.List.{List, [], ◌∷◌, ◌++◌, map, map-append, append_assoc, append-nil}
use Prim.Native.Nat.{ℕ, suc, ◌+◌, ◌-◌, ◌^◌, ◌≤◌, ◌<◌}
use native.Mathlib.Numerals.{add-one}
use native.Mathlib.Omega.{arith}
use borrow.Rule.Slice.PartMut.{put_mid}
use lib.ListN.{length, get_or, take, drop, set, length-append, length-map, drop_of_length-le}
use lib.Seq.{slice, length-slice, length-take-le, take-take, take-suc, take-add, take_all, drop-cons, drop-drop}
use lib.Seq.{set_at, get_or-append-add, get_or-drop}
use Rattle.std.proofs.lemmas.List.{drop-take}
use Rattle.words.specs.Put.{put}
use Rattle.lists.specs.Lists.{◌∈◌}
use Rattle.lists.specs.Places.{get_d_in}
use Rattle.lines_order.specs.Steps.{Below, length_before}
use Rattle.lines_found.specs.Steps.{raised}

-- ---- word by word
-- the words with those before place i raised
abbrev pub lifted : (i : ℕ) → List ℕ → List ℕ
lifted i l = map suc (take i l) ++ drop i l

pub lifted_none : (l : List ℕ) → l ≡ lifted 0 l
lifted_none l = refl

pub lifted_all : (l₀ l : List ℕ) (i : ℕ) → l ≡ lifted i l₀ → length l₀ ≤ i → l ≡ map suc l₀
lifted_all l₀ l i is h =
    is
    ∙ (λ z. map suc (take_all i l₀ h z) ++ drop_of_length-le l₀ {i = i} h z)
    ∙ append-nil (map suc l₀)

module _ (l₀ l : List ℕ) (i : ℕ) (is : l ≡ lifted i l₀) (h : i < length l₀) where
  front : List ℕ
  front = map suc (take i l₀)

  long : length front ≡ i
  unfolding front
  long = length-map (take i l₀) suc ∙ length-take-le i l₀ (omega arith)

  lifted_here : get_or l i 0 ≡ get_or l₀ i 0
  unfolding front
  lifted_here =
      let place : i ≡ length front + 0 = omega (arith, long) in
      let first : i + 0 ≡ i = omega arith in
      ap (λ k. get_or k i 0) is
      ∙ ap (λ k. get_or (front ++ drop i l₀) k 0) place
      ∙ get_or-append-add front (drop i l₀) 0 0
      ∙ get_or-drop i l₀ 0 0
      ∙ ap (λ k. get_or l₀ k 0) first

  pub lift_fits : Below 65535 l₀ → get_or l i 0 + 1 < 2 ^ 16
  unfolding Below
  lift_fits b = omega (arith, lifted_here, b (get_or l₀ i 0) (get_d_in l₀ i 0 h))

  pub lifted_more : set l i (get_or l i 0 + 1) ≡ lifted (i + 1) l₀
  unfolding front
  lifted_more =
      let word : ℕ = get_or l₀ i 0 in
      let up : word + 1 ≡ suc word = omega arith in
      (λ z. set (is z) i (lifted_here z + 1))
      ∙ ap (λ k. set (front ++ k) i (word + 1)) (drop-cons l₀ i 0 h)
      ∙ set_at front word (drop (suc i) l₀) (word + 1) i long
      ∙ ap (λ k. front ++ (k ∷ drop (suc i) l₀)) up
      ∙ rw (
        add-one i,
        take-suc l₀ i 0 h,
        map-append suc (take i l₀) (get_or l₀ i 0 ∷ []),
        append_assoc (map suc (take i l₀)) (suc (get_or l₀ i 0) ∷ []) (drop (suc i) l₀),
      )

-- ---- a part of the words
module _ (l : List ℕ) (i n : ℕ) (inside : i ≤ n) where
  whole : i + (n - i) ≡ n
  whole = omega arith

  pub below_part : (k : ℕ) → Below (k + 1) (take n l) → k < 256 → Below 65535 (take (n - i) (drop i l))
  unfolding Below
  below_part k b few y m =
      let split : take i l ++ take (n - i) (drop i l) ≡ take n l =
      sym (take-add i (n - i) l) ∙ ap (λ j. take j l) whole in
      omega (arith, b y (subst (λ w. y ∈ w) split (Memᴰ.append_right (take i l) m)))

  pub raised_part : (k : ℕ) → n ≤ k → k < 256 → length l ≡ 256 → (part : List ℕ)
      → part ≡ map suc (take (n - i) (drop i l)) → put_mid i (n - i) l part ≡ put 0 (raised i (take n l)) l
  unfolding put raised
  raised_part k h few room part is =
      let those : take (n - i) (drop i l) ≡ slice i n l =
      sym (drop-take i (n - i) l) ∙ ap (λ k. slice i k l) whole in
      let rest : drop (n - i) (drop i l) ≡ drop n l = drop-drop (n - i) i l ∙ ap (λ k. drop k l) whole in
      let past : 0 + length (take i (take n l) ++ map suc (slice i n l)) ≡ n =
      simp (length-append, length-map)
      (omega (arith, length_before l n i inside (omega arith), length-slice i n l (omega arith))) in
      (λ z. take i l ++ ((is ∙ ap (map suc) those) z ++ rest z))
      ∙ sym (append_assoc (take i l) (map suc (slice i n l)) (drop n l))
      ∙ rw (past, take-take i n l inside)

-- The words of what is left: filled, copied, read, lowered, and settled from the end.
use mathlib.Core.Path.{◌≡◌, refl, sym, ap, subst, ◌∙◌}
use mathlib.Core.Bool.{Bool, true, false}
use mathlib.Core.List.{List, [], ◌∷◌, ◌++◌}
use Prim.Native.Nat.{ℕ, suc, ◌+◌, ◌-◌, ◌≤◌, ◌<◌, ◌^◌, min}
use native.Mathlib.Omega.{arith}
use borrow.Author.Tests.{leb-true}
use lib.Dec.{leb, ltb}
use lib.ListN.{length, get_or, set, take, drop, take-append-drop, get_or-eq_default}
use lib.Seq.{drop-cons, take-suc, append_snoc, set_at, get_or_at, get_or-drop, length-take-le}
use Rattle.query_minutes.specs.Minutes.{no_points, blank, lowered}
use Rattle.query_minutes.specs.Noted.{get_d_any, get_d_blank}
use Rattle.query_rides.specs.declared.Ride.{Ride as RideStruct}
use Rattle.query_rests.specs.Settling.{least, settled, settled_from, least_none, settled_none}
use Rattle.query_rests.specs.Spans.{Spans, Arrived, Stored, spans_blank}
use Rattle.query_rests.specs.Spans.{stored_spans, stored_is}
use Rattle.query_rests.specs.Stepping.{settled_spans}
use Rattle.query_rests.specs.Turns.{caught_by}

-- ---- filled and copied
module _ (z first : List ℕ) (t v : ℕ) (spans : Spans t v z) (firsts : Spans t v first) where
  pub kept : (new : List ℕ) → Stored (λ k. get_or z k no_points) t (v + 1) first new → length new ≡ length first
      → new ≡ z
  kept new all e = stored_is (λ k. get_or z k no_points) t v first new all firsts z e spans (λ m k l. refl)

module _ (z new : List ℕ) (t v : ℕ) (spans : Spans t v z) (long : length new ≡ length z) where
  pub cleared : Stored (λ k. 4294967295) t (v + 1) z new → new ≡ blank
  cleared s =
      let none = spans_blank t v in
      stored_is (λ k. 4294967295) t v z new s spans blank long none (λ m h g. sym (get_d_blank 2880 no_points m))

  pub last_filled : Stored (λ k. 0) t (v + 1) z new → Arrived t v new
  last_filled s =
      record {
        spans = stored_spans (λ k. 0) t v z new s spans long;
        free = λ m h g. s.inside m h (omega arith);
      }

-- ---- read
module _ (z : List ℕ) (m r : ℕ) where
  pub read_here : m < length z → r ≡ get_or z m 0 → r ≡ get_or z m no_points
  read_here h e = e ∙ get_d_any z m 0 no_points h

  pub read_past : length z ≤ m → r ≡ 4294967295 → r ≡ get_or z m no_points
  read_past h e = e ∙ sym (get_or-eq_default z no_points h)

-- ---- lowered

-- a word that holds no more than no_points is lowered by as much of a sum as one holds as by the sum
module _ (z : List ℕ) (m a b c : ℕ) (word : get_or z m 0 < 2 ^ 32) where
  pub note_held : (first all : ℕ) (new : List ℕ) → first ≡ min (a + b) no_points → all ≡ min (first + c) no_points
      → new ≡ lowered z m all → new ≡ lowered z m (a + b + c)
  note_held first all new is-first is_all is =
      let same : min (get_or z m 0) all ≡ min (get_or z m 0) (a + b + c) = omega (arith, word, is-first, is_all) in
      is ∙ ap (set z m) same

-- ---- one ride noted
module _
    (cm cp : ℕ)
    (old z : List ℕ)
    (s : RideStruct)
    (left : ℕ)
    (is : left ≡ get_or old s.arrive no_points)
    (r : Bool)
    (is-r : r ≡ ltb left no_points)
  where
    some : ltb (get_or old s.arrive no_points) no_points ≡ r
    some = ap (λ k. ltb k no_points) (sym is) ∙ sym is-r

    pub catch_none : r ≡ false → z ≡ caught_by cm cp old z s
    unfolding caught_by
    catch_none h = simp (some, h)

    module _ (h : r ≡ true) (early : Bool) (is-early : early ≡ leb cm s.depart) where
      pub catch_late : early ≡ false → z ≡ caught_by cm cp old z s
      unfolding caught_by
      catch_late g = simp (some, h, sym is-early ∙ g)

      pub catch_one : (new : List ℕ) (m : ℕ) → early ≡ true → m ≡ s.depart - cm
          → new ≡ lowered z m (cp + s.points.0 + left) → new ≡ caught_by cm cp old z s
      unfolding caught_by
      catch_one new m g is_m e =
          rw (some, h, sym is-early ∙ g)
          (e ∙ (λ i. lowered z (is_m i) (cp + s.points.0 + is i)))

pub changed_in_time : (a b : ℕ) (early : Bool) → early ≡ leb a b → early ≡ true → a ≤ b
changed_in_time a b early is h = leb-true a b (sym is ∙ h)

-- ---- settled from the end
module _ (old : List ℕ) (t v : ℕ) (timely : v ≤ 2879) (spans : Spans t v old) where
  behind_none : (k : ℕ) → get_or (drop (v + 1) old) k no_points ≡ no_points
  behind_none k = get_or-drop (v + 1) old k no_points ∙ spans.above (v + 1 + k) (omega arith)

  pub settle_begins : old ≡ settled_from no_points (v + 1) old
  unfolding settled_from
  settle_begins = rw (settled_none no_points (drop (v + 1) old) behind_none) (sym (take-append-drop (v + 1) old))

  pub low_begins : 4294967295 ≡ least no_points (drop (v + 1) old)
  low_begins = sym (least_none no_points (drop (v + 1) old) behind_none)

  module _
      (z : List ℕ)
      (low m : ℕ)
      (so_far : z ≡ settled_from no_points m old)
      (is : low ≡ least no_points (drop m old))
    where
      pub settle_done : t ≤ m → m ≤ t → z ≡ settled_from no_points t old
      settle_done h g =
          let end : m ≡ t = omega arith in
          so_far ∙ ap (λ k. settled_from no_points k old) end

      pub settle_spans : t ≤ v → t ≤ m → m ≤ t → Spans t v z
      settle_spans early h g =
          subst (Spans t v) (sym (settle_done h g)) (settled_spans t v early timely old spans)

      module _ (more : t < m) (inside : m ≤ v + 1) where
        abbrev k : ℕ
        k = m - 1

        here : k < length old
        here = omega (arith, spans.long)

        next : m ≡ suc k
        next = omega arith

        at : drop k old ≡ get_or old k 0 ∷ drop m old
        at = drop-cons old k 0 here ∙ ap (λ i. get_or old k 0 ∷ drop i old) (sym next)

        front : take m old ≡ take k old ++ (get_or old k 0 ∷ [])
        front = ap (λ i. take i old) next ∙ take-suc old k 0 here

        apart : z ≡ take k old ++ get_or old k 0 ∷ settled no_points (drop m old)
        unfolding settled_from
        apart =
            so_far
            ∙ ap (λ f. f ++ settled no_points (drop m old)) front
            ∙ append_snoc (take k old) (get_or old k 0) (settled no_points (drop m old))

        long_front : length (take k old) ≡ k
        long_front = length-take-le k old (omega (arith, here))

        word : get_or z k 0 ≡ get_or old k 0
        word =
            ap (λ l. get_or l k 0) apart
            ∙ get_or_at (take k old) (get_or old k 0) (settled no_points (drop m old)) 0 k long_front

        pub low_more : (x r : ℕ) → x ≡ get_or z (m - 1) 0 → r ≡ min x low → r ≡ least no_points (drop (m - 1) old)
        unfolding least
        low_more x r is_x e = rw at (omega (arith, e, is_x, word, is))

        pub settle_more : (next : List ℕ) (x r : ℕ) → next ≡ set z (m - 1) r → x ≡ get_or z (m - 1) 0 → r ≡ min x low
            → next ≡ settled_from no_points (m - 1) old
        unfolding settled settled_from
        settle_more next x r is-next is_x e =
            let lowest : r ≡ min (get_or old k 0) (least no_points (drop m old)) = omega (arith, e, is_x, word, is) in
            is-next
            ∙ ap (λ l. set l k r) apart
            ∙ set_at (take k old) (get_or old k 0) (settled no_points (drop m old)) r k long_front
            ∙ rw (at, lowest)

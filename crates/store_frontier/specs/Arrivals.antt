-- The arrivals of each station in a part of an array of their own, by rising minute: stated over the parts, and then
-- place by place.
use Rattle.std.specs.Prelude.{◌≡◌, refl, true, ◌≢◌, List, ◌∷◌, ◌++◌, ℕ, zero, suc, ◌+◌, ◌-◌, ◌≤◌, ◌<◌, length, get_or}
use Rattle.std.specs.Prelude.{take, drop}
use Rattle.std.proofs.Common.{sym, ap, subst, ◌∙◌, arith, take-append-drop, length-take-le, take-take}
use mathlib.Core.List.Memᴰ
use mathlib.Core.List.Memᴰ.{head as here}
use Rattle.std.proofs.Math.Seq.{slice, slice_empty, slice-cons}
use Rattle.std.proofs.lemmas.List.{drop-append-le}
use Rattle.lists.specs.Lists.{◌∈◌, Distinct}
use Rattle.lists.specs.Members.{none, cons_cases}
use Rattle.timetable.specs.Words.{station_count, stop_count, stop_at}
use Rattle.connections.specs.Rides.{may_alight}
use Rattle.store_stops.specs.Stopwise.{station, arrive, Goes}
use Rattle.store_stops.specs.Settled.{Timely}
use Rattle.store_frontier.specs.Parts.{distinct_rest}

-- the arrivals of station c: first has where each station's begin
abbrev pub part : (arrivals first : List ℕ) (c : ℕ) → List ℕ
part arrivals first c = slice (get_or first c 0) (get_or first (c + 1) 0) arrivals

-- stop k is behind a stop that is left again, at station c
pub record ArrivesAt (w : List ℕ) (c k : ℕ) : Type 0 where
  pub i : ℕ
  pub goes : Goes w i
  pub next : suc i ≡ k
  pub here : station w k ≡ c

-- 0 tells that riders may alight at all stops
pub record Tells (w : List ℕ) (r : ℕ) : Type 0 where
  pub all : r ≡ 0 → (k : ℕ) → k < stop_count w → may_alight (stop_at w k) ≡ true

pub record Arrivals (w arrivals first : List ℕ) : Type 0 where
  pub long_first : length first ≡ 67
  pub tells : Tells w (get_or first 66 0)
  pub rises : (c : ℕ) → 1 ≤ c → c ≤ station_count w → get_or first c 0 ≤ get_or first (c + 1) 0
  pub inside : (c : ℕ) → 1 ≤ c → c ≤ station_count w → get_or first (c + 1) 0 ≤ length arrivals
  pub within : (c k : ℕ) → 1 ≤ c → c ≤ station_count w → k ∈ part arrivals first c → ArrivesAt w c k
  pub all : (i : ℕ) → Goes w i → suc i ∈ part arrivals first (station w (suc i))
  pub once : (c : ℕ) → 1 ≤ c → c ≤ station_count w → Distinct (part arrivals first c)
  pub rising : (c j k : ℕ) (xs ys : List ℕ) → 1 ≤ c → c ≤ station_count w
      → part arrivals first c ≡ xs ++ (j ∷ ys) → k ∈ ys → arrive w j ≤ arrive w k

module _ (w arrivals first : List ℕ) (a : Arrivals w arrivals first) where
  pub first_listed : length first ≡ 67
  first_listed = a.long_first

  pub first_tells : Tells w (get_or first 66 0)
  first_tells = a.tells

-- ---- places of a part
-- the part from place f up to place t, in two
slice_two : (l : List ℕ) (f r t : ℕ) → f ≤ r → r ≤ t → t ≤ length l → slice f t l ≡ slice f r l ++ slice r t l
slice_two l f r t a b c =
    let front : take r (take t l) ≡ take r l = take-take r t l b in
    let long = length-take-le r l (omega arith) in
    ap (drop f) (sym (take-append-drop r (take t l)) ∙ ap (λ m. m ++ slice r t l) front)
    ∙ drop-append-le f (take r l) (slice r t l) (omega (arith, long))

-- the same, taken apart at place r
slice_parts : (l : List ℕ) (f r t : ℕ) → f ≤ r → r < t → t ≤ length l
    → slice f t l ≡ slice f r l ++ (get_or l r 0 ∷ slice (suc r) t l)
slice_parts l f r t a b c =
    slice_two l f r t a (omega arith) c ∙ ap (λ m. slice f r l ++ m) (slice-cons r t l 0 b c)

slice_in : (l : List ℕ) (f r t : ℕ) → f ≤ r → r < t → t ≤ length l → get_or l r 0 ∈ slice f t l
slice_in l f r t a b c =
    subst
    (λ m. get_or l r 0 ∈ m)
    (sym (slice_parts l f r t a b c))
    (Memᴰ.append_right (slice f r l) (here refl))

-- the place of a member
pub record Placed (l : List ℕ) (f t k : ℕ) : Type 0 where
  pub r : ℕ
  pub from : f ≤ r
  pub to : r < t
  pub is : k ≡ get_or l r 0

placed_within : (n : ℕ) (l : List ℕ) (f t k : ℕ) → t ≡ f + n → t ≤ length l → k ∈ slice f t l → Placed l f t k
placed_within zero l f t k e h m =
    let none_left : t ≡ f = omega arith in
    none (subst (λ x. k ∈ x) (ap (λ u. slice f u l) none_left ∙ slice_empty f l) m)
placed_within (suc n) l f t k e h m =
    cons_cases
    (subst (λ x. k ∈ x) (slice-cons f t l 0 (omega arith) h) m)
    (λ z. record { r = f; from = omega arith; to = omega arith; is = z })
    (λ j.
    let p = placed_within n l (suc f) t k (omega arith) h j in
    record { r = p.r; from = omega (arith, p.from); to = p.to; is = p.is })

pub placed : (l : List ℕ) (f t k : ℕ) → f ≤ t → t ≤ length l → k ∈ slice f t l → Placed l f t k
placed l f t k a b m = placed_within (t - f) l f t k (omega arith) b m

-- a part of the array, place by place: each stop stands there once
pub record Held (arrivals : List ℕ) (from end : ℕ) : Type 0 where
  pub ordered : from ≤ end
  pub inside : end ≤ length arrivals
  pub stop : (r : ℕ) → from ≤ r → r < end → get_or arrivals r 0 < 2048
  pub once : (r s : ℕ) → from ≤ r → r < s → s < end → get_or arrivals s 0 ≢ get_or arrivals r 0

pub held_part : (arrivals : List ℕ) (from end : ℕ) → Held arrivals from end → (p q : ℕ) → from ≤ p → p ≤ q → q ≤ end
    → Held arrivals p q
held_part arrivals from end held p q a b c =
    record {
      ordered = b;
      inside = omega (arith, held.inside);
      stop = (λ r h g. held.stop r (omega arith) (omega arith));
      once = (λ r s h g k. held.once r s (omega arith) g (omega arith));
    }

-- and the minutes rise
pub record Run (w arrivals : List ℕ) (from end : ℕ) : Type 0 where
  pub held : Held arrivals from end
  pub rising : (r s : ℕ) → from ≤ r → r < s → s < end → arrive w (get_or arrivals r 0) ≤ arrive w (get_or arrivals s 0)

module _ (w arrivals first : List ℕ) (a : Arrivals w arrivals first) (c : ℕ) (some : 1 ≤ c)
    (listed : c ≤ station_count w) where
  abbrev from : ℕ
  from = get_or first c 0

  abbrev end : ℕ
  end = get_or first (c + 1) 0

  room : end ≤ length arrivals
  room = a.inside c some listed

  pub arrives_at : (r : ℕ) → get_or first c 0 ≤ r → r < get_or first (c + 1) 0 → ArrivesAt w c (get_or arrivals r 0)
  arrives_at r h g = a.within c (get_or arrivals r 0) some listed (slice_in arrivals from r end h g room)

  parts : (r : ℕ) → from ≤ r → r < end
      → part arrivals first c ≡ slice from r arrivals ++ (get_or arrivals r 0 ∷ slice (suc r) end arrivals)
  parts r h g = slice_parts arrivals from r end h g room

  behind : (r s : ℕ) → from ≤ r → r < s → s < end → get_or arrivals s 0 ∈ slice (suc r) end arrivals
  behind r s h g k = slice_in arrivals (suc r) s end g k room

  held_of : Timely w → Held arrivals (get_or first c 0) (get_or first (c + 1) 0)
  held_of t =
      record {
        ordered = a.rises c some listed;
        inside = room;
        stop =
            (λ r h g.
            let k = arrives_at r h g in
            omega (arith, k.next, t.few k.i k.goes, t.stops));
        once =
            (λ r s h g k z.
            (distinct_rest (slice from r arrivals) (get_or arrivals r 0 ∷ slice (suc r) end arrivals)
            (subst Distinct (parts r h (omega arith)) (a.once c some listed))).0
            (Memᴰ.cast (sym z) (behind r s h g k)));
      }

  pub run_of : Timely w → Run w arrivals (get_or first c 0) (get_or first (c + 1) 0)
  run_of t =
      record {
        held = held_of t;
        rising =
            (λ r s h g k.
            a.rising c (get_or arrivals r 0) (get_or arrivals s 0) (slice from r arrivals) (slice (suc r) end arrivals)
            some listed (parts r h (omega arith)) (behind r s h g k));
      }

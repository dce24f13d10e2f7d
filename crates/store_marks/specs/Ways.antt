-- The ways of changing from one station to another: at the station itself, if they are one, and by the walk between
-- them, which is looked for among those of the first station.
use Rattle.std.specs.Prelude.{◌≡◌, Bool, true, false, cond, List, [], ◌∷◌, ◌++◌, ℕ, ◌≤◌, ◌<◌, ltb, eqb}
use Rattle.std.proofs.Math.Path.{refl}
use Rattle.std.proofs.Common.{sym, ap, subst, ◌∙◌, arith, lt-ltb, eq-eqb, eqb-true, ltb-true}
use mathlib.Core.List.Memᴰ
use mathlib.Core.List.Memᴰ.{head as here}
use Rattle.lists.specs.Lists.{◌∈◌}
use Rattle.lists.specs.Members.{none, cons_cases, append_cases}
use Rattle.timetable.specs.Words.{station_count, walks_to, walk_at, is_timetable}
use Rattle.timetable.specs.Walks.{FromStation, walk_from}
use Rattle.timetable.specs.WalkTo.{walk_to, Sought, walk_sought}
use Rattle.connections.specs.Connections.{Change, Transfer, transfer, on_foot}
use Rattle.store_stops.specs.Stopwise.{stay, ways_of}
use Rattle.store_stops.specs.Ways.{stay_way, from_way, each_way}
use Rattle.store_marks.specs.Riding.{stays, foots, rides_by}
use Rattle.store_marks.specs.Stepping.{pair, pair_same, Between}

module _ (w : List ℕ) (ok : is_timetable w ≡ true) (y e : ℕ) (some : 1 ≤ y) (listed : y ≤ station_count w) where
  module _ (k : ℕ) (sought : Sought w y e k) where
    this : k < walks_to w y → FromStation w y k
    this h = record { begun = sought.begun; inside = h }

    stays_only : (b : Bool) → eqb y e ≡ b → (way : Change) → way ∈ cond b (stay w y ∷ []) []
        → (way ∈ ways_of w) × (transfer way ≡ pair y e)
    stays_only true t way m =
        cons_cases m
        (λ q. (
          subst (λ z. z ∈ ways_of w) (sym q) (stay_way w ok y some listed),
          ap transfer q ∙ pair_same refl (eqb-true y e t),
        ))
        (λ i. none i)
    stays_only false t way m = none m

    foots_only : (b : Bool) → ltb k (walks_to w y) ≡ b → (way : Change) → way ∈ cond b (on_foot (walk_at w k) ∷ []) []
        → (way ∈ ways_of w) × (transfer way ≡ pair y e)
    foots_only true t way m =
        let h = ltb-true k (walks_to w y) t in
        cons_cases m
        (λ q. (
          subst (λ z. z ∈ ways_of w) (sym q) (from_way w ok y k some listed (this h)),
          ap transfer q ∙ pair_same (walk_from w ok y k some listed (this h)) (sought.found h),
        ))
        (λ i. none i)
    foots_only false t way m = none m

    between_only : (way : Change) → way ∈ stays w y e ++ foots w y k → (way ∈ ways_of w) × (transfer way ≡ pair y e)
    unfolding stays foots
    between_only way m =
        append_cases (cond (eqb y e) (stay w y ∷ []) []) m (stays_only (eqb y e) refl way)
        (foots_only (ltb k (walks_to w y)) refl way)

    stays_in : y ≡ e → stay w y ∈ stays w y e
    unfolding stays
    stays_in q = rw (eq-eqb y e q) (here refl)

    foots_in : (i : ℕ) → FromStation w y i → i ≡ k → on_foot (walk_at w i) ∈ foots w y k
    unfolding foots
    foots_in i f q =
        let h : k < walks_to w y = omega (arith, f.inside) in
        rw (lt-ltb k (walks_to w y) h) (here (ap (λ z. on_foot (walk_at w z)) q))

    pub between : Between w (pair y e) (stays w y e ++ foots w y k)
    between =
        record {
          only = between_only;
          all = λ way m is.
              each_way
              w
              ok
              (λ way. transfer way ≡ pair y e → way ∈ stays w y e ++ foots w y k)
              y
              (λ q. Memᴰ.append_left (foots w y k) (stays_in (ap (λ (z : Transfer). z.boarded) q)))
              (λ i f q.
              Memᴰ.append_right (stays w y e)
              (foots_in i f (sought.only i f (ap (λ (z : Transfer). z.boarded) q))))
              way
              m
              (ap (λ (z : Transfer). z.alighted) is)
              is;
        }

-- one way after the other
pub by_append : (w : List ℕ) (c : ℕ) (l m : List Change) (x : List ℕ)
    → rides_by w c (l ++ m) x ≡ rides_by w c m (rides_by w c l x)
unfolding rides_by
by_append w c [] m x = refl
by_append w c (way ∷ l) m x = by_append w c l m _

-- x where all who board at station c have ridden and changed from station y to station e in every way
pub record RidesBetween (w : List ℕ) (c y e : ℕ) (x new : List ℕ) : Type 0 where
  pub k : ℕ
  pub sought : Sought w y e k
  pub is : new ≡ rides_by w c (stays w y e ++ foots w y k) x

pub rides_between : (w : List ℕ) (c y e k : ℕ) (x mid new : List ℕ) → is_timetable w ≡ true → 1 ≤ y
    → y ≤ station_count w → k ≡ walk_to w y e → mid ≡ rides_by w c (stays w y e) x → new ≡ rides_by w c (foots w y k)
    mid
    → RidesBetween w c y e x new
rides_between w c y e k x mid new ok some listed found stayed walked =
    record {
      k = k;
      sought = subst (Sought w y e) (sym found) (walk_sought w ok y some listed e);
      is = walked ∙ ap (rides_by w c (foots w y k)) stayed ∙ sym (by_append w c (stays w y e) (foots w y k) x);
    }

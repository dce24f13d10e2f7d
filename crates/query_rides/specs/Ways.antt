-- The way of changing from one station to another, of which there is one at the most: the walk between them, if there
-- is one, and else the change at the station itself, if the two are the same. Document 02, Nine: "Some stations have
-- both an S line and a W line from the station to itself [..] From now on such a W line goes first: the S values do not
-- apply to changes there."
use Rattle.std.specs.Prelude.{◌≡◌, Bool, cond, ◌⊎◌, List, ℕ, suc, ◌-◌, ◌≤◌, ◌<◌, T, eqb}
use Rattle.std.proofs.Math.Path.{refl}
use Rattle.std.proofs.Common.{sym, ap, subst, ◌∙◌, inl, inr, arith, eqb-true, eq-eqb, ltb-true, ltb-false}
use Rattle.std.proofs.Math.Bool.{true, false}
use Rattle.std.proofs.Math.Dec.{ltb}
use Rattle.timetable.specs.Timetable.{Walk, Timetable}
use Rattle.timetable.specs.Words.{station_count, station_at, walks_to, walk_at, timetable_of, is_timetable}
use Rattle.timetable.specs.Check.{length_stations}
use Rattle.timetable.specs.Access.{station_is}
use Rattle.timetable.specs.Walks.{FromStation, walks_rise, walk_place_lem, walk_from, walk_in_lem, walk_out}
use Rattle.timetable.specs.WalkTo.{walk_to, Sought, walk_sought}
use Rattle.lists.specs.Lists.{◌∈◌}
use Rattle.lists.specs.Tests.{T_true}
use Rattle.results.specs.declared.Cost.{Cost}
use Rattle.connections.specs.Connections.{Change, Net, net, no_station, change_at, on_foot}
use Rattle.connections.proofs.RideLaws.{Own, changes_in, walks_in_lem, changes_out}
use Rattle.query_rides.specs.declared.Change.{Change as Manner}
use Rattle.query_rides.specs.declared.Change.TheVariants.{Here, Walk as OnFoot}
use Rattle.query_rides.specs.declared.Way.{Way}

-- what a change takes and costs by its case, where one at the station itself takes and costs so much: "The walk's
-- minutes and penalty replace the station's."
abbrev pub cost_of : (stay : Cost) → Manner → Cost
cost_of stay Here = stay
cost_of stay (OnFoot v) = record { minutes = record { 0 = v.minutes }; points = record { 0 = v.points } }

-- the S values of station y
abbrev pub own_cost : (w : List ℕ) (y : ℕ) → Cost
own_cost w y =
    record {
      minutes = record { 0 = (station_at w (y - 1)).minutes };
      points = record { 0 = (station_at w (y - 1)).points };
    }

-- on walk k, and at the station itself, if station x is the same
abbrev pub on_walk : (w : List ℕ) (y k : ℕ) → Way
on_walk w y k = record { found = true; here = own_cost w y; change = OnFoot (walk_at w k) }

abbrev pub at_station : (w : List ℕ) (y x : ℕ) → Way
at_station w y x = record { found = eqb y x; here = own_cost w y; change = Here }

-- the way of changing from station y to station x: "such a W line goes first"
unfoldable pub way_between : (w : List ℕ) (y x : ℕ) → Way
way_between w y x =
    let k = walk_to w y x in
    cond (ltb k (walks_to w y)) (on_walk w y k) (at_station w y x)

-- what it takes and costs
abbrev pub cost_in : Way → Cost
cost_in g = cost_of g.here g.change

-- a change takes and costs so much
pub record Takes (w : Change) (c : Cost) : Type 0 where
  pub minutes : w.minutes ≡ c.minutes.0
  pub points : w.points ≡ c.points.0

-- there is a change from station y to station x that does
pub record Changes (n : Net) (y x : ℕ) (c : Cost) : Type 0 where
  pub change : Change
  pub listed : change ∈ n.changes
  pub from : change.from ≡ y
  pub to : change.to ≡ x
  pub takes : Takes change c

-- way g, if it is one, is a change from station y to station x, and there is no other
pub record Open (n : Net) (y x : ℕ) (g : Way) : Type 0 where
  pub sound : T g.found → Changes n y x (cost_in g)
  pub all : (w : Change) → w ∈ n.changes → w.from ≡ y → w.to ≡ x → T g.found × Takes w (cost_in g)

module _ (w : List ℕ) (accepted : is_timetable w ≡ true) (y x : ℕ) (some : 1 ≤ y) (inside : y ≤ station_count w) where
  abbrev t : Timetable
  t = timetable_of w

  abbrev n : Net
  n = net t

  abbrev k : ℕ
  k = walk_to w y x

  sought : Sought w y x k
  sought = walk_sought w accepted y some inside x

  -- ---- the walk found, which is the only one
  module _ (found : k < walks_to w y) where
    found_in : walk_at w k ∈ t.walks
    found_in =
        let few = walks_rise w accepted y (station_count w) inside (omega arith) in
        walk_in_lem w k (omega arith)

    found_from : (walk_at w k).from ≡ y
    found_from = walk_from w accepted y k some inside (record { begun = sought.begun; inside = found })

    walk_changes : Changes n y x (cost_in (on_walk w y k))
    walk_changes =
        record {
          change = on_foot (walk_at w k);
          listed = walks_in_lem t (walk_at w k) found_in;
          from = found_from;
          to = sought.found found;
          takes = record { minutes = refl; points = refl };
        }

  walk_found : (v : Walk) → v ∈ t.walks → v.from ≡ y → v.to ≡ x → (k < walks_to w y) × (walk_at w k ≡ v)
  walk_found v m from to =
      let r = walk_out w v m in
      let from-r = ap (λ v. v.from) r.2 ∙ from in
      let place = subst (λ y. FromStation w y r.0) from-r (walk_place_lem w accepted r.0 r.1) in
      let same = sought.only r.0 place (ap (λ v. v.to) r.2 ∙ to) in
      (omega (arith, place.inside, same), ap (walk_at w) (sym same) ∙ r.2)

  -- ---- the change at the station itself
  abbrev own : Change
  own = change_at t.stations (y - 1)

  own_from : own.from ≡ y
  own_from = omega arith

  own_takes : Takes own (own_cost w y)
  own_takes =
      let is = station_is w (y - 1) no_station (omega arith) in
      record { minutes = ap (λ s. s.minutes) is; points = ap (λ s. s.points) is }

  own_changes_lem : Own t (y - 1) → y ≡ x → Changes n y x (own_cost w y)
  own_changes_lem h e =
      record {
        change = own;
        listed = changes_in t (y - 1) h;
        from = own_from;
        to = own_from ∙ e;
        takes = own_takes;
      }

  -- a station's own change from y to x is that of y, which is x
  module _ (v : Change) (from : v.from ≡ y) (to : v.to ≡ x) (z : ℕ) (is : change_at t.stations z ≡ v) where
    at_from : suc z ≡ y
    at_from = ap (λ v. v.from) is ∙ from

    at_to : suc z ≡ x
    at_to = ap (λ v. v.to) is ∙ to

    same_own : own ≡ v
    same_own =
        let same : y - 1 ≡ z = omega (arith, at_from) in
        ap (change_at t.stations) same ∙ is

  -- ---- if there is a walk, the S values do not apply; if there is none, they do
  abbrev Either : Change → Type 0
  Either v =
      ((z : ℕ) × Own t z × (change_at t.stations z ≡ v)) ⊎ ((u : Walk) × (u ∈ t.walks) × (on_foot u ≡ v))

  open_walk : k < walks_to w y → Open n y x (on_walk w y k)
  open_walk h =
      record { sound = λ f. walk_changes h; all = λ v m from to. (tt, go v from to (changes_out t v m)) }
    where
      go : (v : Change) → v.from ≡ y → v.to ≡ x → Either v → Takes v (cost_in (on_walk w y k))
      go v from to (inl r) =
          absurd
          (r.1.alone (walk_at w k) (found_in h)
          (found_from h ∙ sym (at_from v from to r.0 r.2))
          (sought.found h ∙ sym (at_to v from to r.0 r.2)))
      go v from to (inr r) =
          let found = walk_found r.0 r.1 (ap (λ v. v.from) r.2 ∙ from) (ap (λ v. v.to) r.2 ∙ to) in
          subst
          (λ v. Takes v (cost_in (on_walk w y k)))
          (ap on_foot found.1 ∙ r.2)
          (record { minutes = refl; points = refl })

  open_station : walks_to w y ≤ k → Open n y x (at_station w y x)
  open_station h = record { sound = sound; all = λ v m from to. go v from to (changes_out t v m) }
    where
      no_walk : (v : Walk) → v ∈ t.walks → v.from ≡ y → v.to ≡ x → ⊥
      no_walk v m from to = omega (arith, (walk_found v m from to).0)

      sound : T (eqb y x) → Changes n y x (own_cost w y)
      sound f =
          let same = eqb-true y x (T_true (eqb y x) f) in
          own_changes_lem
          (record {
            inside = omega (arith, length_stations w);
            alone = λ v m from to. no_walk v m (from ∙ own_from) (to ∙ own_from ∙ same);
          })
          same

      go : (v : Change) → v.from ≡ y → v.to ≡ x → Either v → T (eqb y x) × Takes v (own_cost w y)
      go v from to (inl r) =
          let same = sym (at_from v from to r.0 r.2) ∙ at_to v from to r.0 r.2 in (
            rw (eq-eqb y x same) tt,
            subst (λ v. Takes v (own_cost w y)) (same_own v from to r.0 r.2) own_takes,
          )
      go v from to (inr r) =
          absurd (no_walk r.0 r.1 (ap (λ v. v.from) r.2 ∙ from) (ap (λ v. v.to) r.2 ∙ to))

  pub open_way : Open n y x (way_between w y x)
  unfolding way_between
  open_way = go (ltb k (walks_to w y)) refl
    where
      go : (b : Bool) → ltb k (walks_to w y) ≡ b → Open n y x (cond b (on_walk w y k) (at_station w y x))
      go true e = open_walk (ltb-true k (walks_to w y) e)
      go false e = open_station (ltb-false k (walks_to w y) e)

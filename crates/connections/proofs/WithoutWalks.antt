-- Where a timetable has no walk, all is as document 01 has it: "at each change alights and boards at one station". The
-- connections, their costs and their rows are the same, and a sequence of document 02 is one of document 01 in which
-- each station of a change stands twice, as alighted at and as boarded at. For a reader.
use Rattle.std.specs.Prelude.{◌≡◌, refl, ℕ, length}
use Rattle.std.proofs.Common.{sym, subst, ◌∙◌}
use Rattle.std.proofs.Math.Path.{ap}
use mathlib.Core.List.Memᴰ
use mathlib.Core.List.{List, [], ◌∷◌, ◌++◌, map, append-nil}
use Rattle.timetable.specs.Timetable.{Station, Timetable}
use Rattle.lists.specs.Lists.{◌∈◌, range}
use Rattle.lists.specs.Members.{none as no_member}
use Rattle.connections.specs.Rides.{rides_of}
use Rattle.connections.specs.Connections.{Change, change_at, on_foot, changes_of, net, Connection, direct}
use Rattle.connections.specs.Connections.{onward, Feasible, ready, stations}
use Rattle.connections.specs.Platforms.{both_open, NoneAlong}
use Rattle.connections.proofs.Platforms.{same_changes as both_changes}
use Rattle.connections.specs.WithoutWalks.{own_changes, former_net, changed_stations, doubled}

module _ (t : Timetable) (none : t.walks ≡ []) where
  -- nor one from a station to itself
  none_along : NoneAlong t
  none_along v m = absurd (no_member (subst (λ l. v ∈ l) none m))

  same_changes : changes_of t ≡ own_changes t.stations
  unfolding both_open own_changes
  same_changes =
      both_changes t none_along
      ∙ ap (λ l. map (change_at t.stations) (range 0 (length t.stations)) ++ map on_foot l) none
      ∙ append-nil (map (change_at t.stations) (range 0 (length t.stations)))

  pub same_net : net t ≡ former_net t
  same_net = λ i. record { stations = length t.stations; rides = rides_of t; changes = same_changes i }

-- "alights and boards at one station"
pub stays : (l : List Station) (w : Change) → w ∈ own_changes l → w.to ≡ w.from
unfolding own_changes
stays l w m =
    let r = Memᴰ.of_map (change_at l) (range 0 (length l)) m in
    sym (ap (λ w. w.to) r.2) ∙ ap (λ w. w.from) r.2

double_more : (x : ℕ) (c : Connection) → doubled (x ∷ changed_stations c) ≡ x ∷ x ∷ doubled (changed_stations c)
double_more x (direct r) = refl
double_more x (onward r w c) = refl

pub stations_doubled : (t : Timetable) (a u b : ℕ) (c : Connection) → Feasible (former_net t) a u b c
    → stations c ≡ doubled (changed_stations c)
stations_doubled t a u b (direct r) f = refl
stations_doubled t a u b (onward r w c) f =
    let at = stays t.stations w f.1.listed in
    let rest = stations_doubled t w.to (ready r w) b c f.2 in
    (λ i. w.from ∷ at i ∷ rest i) ∙ sym (double_more w.from c)

-- The stored sequences of a source have such a tree.
use Rattle.std.specs.Prelude.{◌≡◌, true, List, ℕ, T}
use Rattle.std.proofs.Common.{sym, subst}
use Rattle.lists.specs.Lists.{◌∈◌}
use Rattle.lists.specs.Pigeonhole.{Within}
use Rattle.timetable.specs.Words.{station_count, timetable_of, is_timetable}
use Rattle.timetable.specs.Check.{length_stations}
use Rattle.timetable.specs.Access.{spelled_valid}
use Rattle.connections.specs.Connections.{Net, net, Connection, direct, onward, ready, Feasible}
use Rattle.connections.specs.Connections.{stations}
use Rattle.connections.proofs.Sound.{Sound, sound}
use Rattle.connections.proofs.Feasibility.{stations_listed}
use Rattle.stores.specs.Stored.{sequences}
use Rattle.stores.proofs.StoredLaws.{stored_out, stored_odd, sequence_is}
use Rattle.store_slots.specs.SlotLaws.{way_slot}
use Rattle.store_tree.specs.Tree.{Slotted, Made}

module _ (w : List ℕ) (yes : is_timetable w ≡ true) where
  abbrev net_of : Net
  net_of = net (timetable_of w)

  ok : Sound net_of
  ok = sound (timetable_of w) (subst T (sym (spelled_valid w yes)) tt)

  -- who changes can change so
  stations_slotted : (a t b : ℕ) (c : Connection) → Feasible net_of a t b c → Slotted w (stations c)
  stations_slotted a t b (direct r) f = tt
  stations_slotted a t b (onward r v c) f =
      let s = way_slot w yes v f.1.listed in
      (record { slot = s.0; listed = s.1.listed; is = s.1.is }, stations_slotted v.to (ready r v) b c f.2)

  pub stored_made : (a : ℕ) → Made w (sequences w a)
  stored_made a =
      record {
        timetable = yes;
        odd = stored_odd net_of ok a;
        within = within;
        paired = paired;
      }
    where
      within : (q : List ℕ) → q ∈ sequences w a → Within (station_count w) q
      within q m =
          let s = stored_out net_of ok a q m in
          let l = stations_listed net_of ok a s.minute s.target s.connection s.optimal.feasible in
          subst (λ k. Within k q) (length_stations w) (subst (Within net_of.stations) (sequence_is net_of ok a q s) l)

      paired : (q : List ℕ) → q ∈ sequences w a → Slotted w q
      paired q m =
          let s = stored_out net_of ok a q m in
          subst
          (Slotted w)
          (sequence_is net_of ok a q s)
          (stations_slotted a s.minute s.target s.connection s.optimal.feasible)

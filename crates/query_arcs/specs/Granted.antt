-- What the code takes for granted once questions 8 to 13 have their yes.
use Rattle.std.specs.Prelude.{◌≡◌, true, List, ℕ, ◌≤◌, T, length}
use Rattle.std.proofs.Common.{sym, subst, arith}
use Rattle.timetable.specs.Timetable.{last_minute, valid}
use Rattle.timetable.specs.Words.{timetable_of, is_timetable, station_count}
use Rattle.timetable.specs.Access.{spelled_valid}
use Rattle.lists.specs.Lists.{◌∈◌}
use Rattle.connections.specs.Connections.{net, Connection}
use Rattle.connections.proofs.Sound.{Sound, sound}
use Rattle.connections.proofs.Feasibility.{penalty_most_lem}
use Rattle.stores.specs.Words.{well_made}
use Rattle.lines_check.specs.Question10.{are_tables}
use Rattle.promises.specs.Query.{kept}
use Rattle.query_arcs.specs.Kept.{Bounds}
use Rattle.query_arcs.specs.Collected.{kept_bounds}

-- the timetable w, line tables v and store s, for a query from station a to station b at minute u
pub record Granted (w v s : List ℕ) (a b u : ℕ) : Type 0 where
  pub long : 16384 ≤ length w
  pub accepted : is_timetable w ≡ true
  pub own : are_tables w v ≡ true
  pub made : well_made (length (timetable_of w).stations) s ≡ true
  pub some : 1 ≤ a
  pub inside : a ≤ station_count w
  pub minute : u ≤ last_minute

module _ (w v s : List ℕ) (a b u : ℕ) (g : Granted w v s a b u) where
  pub is_valid : T (valid (timetable_of w))
  is_valid = subst T (sym (spelled_valid w g.accepted)) tt

  pub is_sound : Sound (net (timetable_of w))
  is_sound = sound (timetable_of w) is_valid

  pub all_bounds : (c : Connection) → c ∈ kept w s a b u → Bounds u (kept w s a b u) c
  all_bounds =
      kept_bounds (net (timetable_of w)) is_sound s a u b
      (λ c f. omega (arith, penalty_most_lem (timetable_of w) is_valid a u b c f))

-- What is caught on foot, as it is written down: the walks of one station after one arrival, and all that is kept then.
use Rattle.std.specs.Prelude.{◌≡◌, ◌≢◌, List, ℕ, ◌+◌, ◌≤◌, ◌<◌, length, get_or}
use Rattle.timetable.specs.Words.{walk_at}
use Rattle.connections.specs.Connections.{on_foot}
use Rattle.store_departures.specs.Order.{catch_by}
use Rattle.store_departures.specs.Held.{Kept}

-- what walks from place begin up to end reach after the arrival at stop j stands base words behind their places
pub record KeptWalks (w : List ℕ) (j base begin end : ℕ) (chained : List ℕ) : Type 0 where
  pub is : (k : ℕ) → begin ≤ k → k < end → get_or chained (base + k) 0 ≡ catch_by w (on_foot (walk_at w k)) j

-- what is kept for stop j stands before place end; in front of place at nothing but the word of stop j was written
pub record Keeping (w : List ℕ) (j at end : ℕ) (old new : List ℕ) : Type 0 where
  pub long : length new ≡ 20480
  pub others : (m : ℕ) → m < at → m ≢ 2048 + j → get_or new m 0 ≡ get_or old m 0
  pub rises : at ≤ end
  pub ends : end ≤ 20480
  pub kept : Kept w new end j

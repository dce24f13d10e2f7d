-- What is allowed on arrival at a minute, by the least penalties from that minute on; and with who can still end well,
-- all that the marks of a node are found by.
use Rattle.std.specs.Prelude.{List, ℕ}
use Rattle.store_stops.specs.Prospects.{Allows, Bounded}
use Rattle.store_stops.specs.Settled.{Settled}
use Rattle.store_departures.specs.Order.{catch_by}
use Rattle.store_frontier.specs.Routes.{Routes}
use Rattle.store_nodes.specs.Standing.{Judged, judged}

pub record AllowedAt (w : List ℕ) (a d : ℕ) (allowed : List ℕ) : Type 0 where
  pub least : List ℕ
  pub settled : Settled w a d least
  pub allows : Allows w a least allowed

pub allowed_at : (w : List ℕ) (a d : ℕ) (v allowed : List ℕ) → Settled w a d v → Allows w a v allowed
    → AllowedAt w a d allowed
allowed_at w a d v allowed s l = record { least = v; settled = s; allows = l }

pub judged_at : (w listed : List ℕ) (n a d : ℕ) (allowed caught q : List ℕ) → Routes w listed n caught
    → AllowedAt w a d allowed → Bounded w allowed d (catch_by w) q → Judged w a d allowed q
judged_at w listed n a d allowed caught q r s b =
    judged w listed n a d s.least allowed caught q r s.settled s.allows b

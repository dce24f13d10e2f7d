-- What a ride is known by: its numbers.
use Rattle.std.specs.Prelude.{T}
use Rattle.timetable.specs.Timetable.{Timetable, valid}
use Rattle.connections.specs.Connections.{net}
use Rattle.connections.specs.Named.{Named}
use Rattle.connections.proofs.RideLaws.{ride_unique}

pub named : (t : Timetable) → T (valid t) → Named (net t)
named t ok = record { ride = ride_unique t ok }

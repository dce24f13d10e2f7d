-- The place of a trip is a word.
use Rattle.changes.proofs.AskedLaws.{narrow_trip}
use Rattle.changes.proofs.take_out.Goals as goal

pub overflow_cast-place : goal.overflow_cast-place
overflow_cast-place c = record { fits = search narrow_trip }

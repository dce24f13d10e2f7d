-- The two ways of the test.
use Rattle.query_shown.proofs.KeyLaws.{late_first}
use Rattle.query_shown.proofs.rides.lateness.Goals as goal

pub returns-then-first : goal.returns-then-first
returns-then-first c = search late_first

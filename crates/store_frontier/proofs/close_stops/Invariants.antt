-- Stop by stop: those before stop j are done, and the words of all others are as they were.
use mathlib.Core.Path.{◌≡◌}
use lib.ListN.{length}
use Rattle.store_frontier.specs.Allowing.{Closing}
use Rattle.store_frontier.proofs.close_stops.Given as goal

abbrev pub invariant-loop-j : goal.invariant-loop-j
invariant-loop-j l = (length l.v ≡ length l.initial.v) × Closing l.words l.j l.initial.v l.v

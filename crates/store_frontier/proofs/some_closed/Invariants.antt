-- The stops before stop j are open.
use Rattle.store_frontier.specs.Allowing.{OpenTo}
use Rattle.store_frontier.proofs.some_closed.Given as goal

abbrev pub invariant-loop-j : goal.invariant-loop-j
invariant-loop-j l = OpenTo l.words l.j

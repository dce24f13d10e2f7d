-- No penalty of the minutes so far is below it.
use Rattle.query_minutes.specs.Ending.{Floor}
use Rattle.query_minutes.proofs.least_of.Given as goal

abbrev pub invariant-loop-m : goal.invariant-loop-m
invariant-loop-m l = Floor l.low.0 l.m l.best

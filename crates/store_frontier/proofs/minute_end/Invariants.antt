-- All arrivals from place p up to q are of one minute.
use Prim.Native.Nat.{◌≤◌}
use Rattle.store_frontier.specs.Front.{MinuteTo}
use Rattle.store_frontier.proofs.minute_end.Given as goal

abbrev pub invariant-loop-q : goal.invariant-loop-q
invariant-loop-q l = (l.q ≤ l.end) × MinuteTo l.words l.arrivals l.p l.q

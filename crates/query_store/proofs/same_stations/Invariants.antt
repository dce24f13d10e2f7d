-- If the stations of the two nodes at hand are the same, so are those of the two that were asked for.
use Prim.Native.Nat.{◌≤◌}
use Rattle.query_store.specs.Entries.{node_count}
use Rattle.query_store.proofs.RepeatLaws.{Alike}
use Rattle.query_store.proofs.same_stations.Given as goal

abbrev pub invariant-loop-u : goal.invariant-loop-u
invariant-loop-u l = (l.u ≤ node_count l.store) × (l.v ≤ node_count l.store) × Alike l.store l.first l.second l.u l.v

abbrev pub decreases-loop-u : goal.decreases-loop-u
decreases-loop-u l = l.u

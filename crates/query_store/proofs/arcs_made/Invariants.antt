-- The arcs before k are well made and rise, so all depends on the arcs from k on.
use mathlib.Core.Path.{◌≡◌}
use Rattle.query_store.specs.Tests.{arcs_test}
use Rattle.query_store.proofs.arcs_made.Given as goal

abbrev pub invariant-loop-k : goal.invariant-loop-k
invariant-loop-k l = arcs_test l.stations l.store 0 ≡ arcs_test l.stations l.store l.k

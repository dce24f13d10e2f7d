-- The nodes up to v are well made and their depths noted, so all depends on the nodes behind v.
use mathlib.Core.Path.{◌≡◌}
use lib.ListN.{length}
use Rattle.query_store.specs.Tests.{nodes_test}
use Rattle.query_store.specs.Depths.{Depths}
use Rattle.query_store.proofs.nodes_made.Given as goal

abbrev pub invariant-loop-v : goal.invariant-loop-v
invariant-loop-v l = (length l.work ≡ length l.initial.work)
    × (nodes_test l.stations l.store 0 ≡ nodes_test l.stations l.store l.v)
    × Depths l.store l.work l.v

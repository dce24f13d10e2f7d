-- The penalties are the least of the connections that go by one of the arcs so far, and a minute has an arc only if no
-- other of them has its penalty.
use mathlib.Core.Path.{◌≡◌}
use lib.ListN.{length}
use Rattle.query_store.specs.Entries.{arc_count}
use Rattle.query_minutes.specs.Minutes.{blank}
use Rattle.query_arcs.specs.Merged.{Bound}
use Rattle.query_arcs.specs.Arcs.{NotedAll}
use Rattle.query_arcs.proofs.note_arcs.Given as goal

abbrev pub invariant-loop-k : goal.invariant-loop-k
invariant-loop-k l = (l.arcs ≡ arc_count l.store)
    × (length l.best ≡ 2880)
    × (length l.who ≡ 2880)
    × (length l.mine ≡ 2880)
    × (l.mine ≡ blank)
    × (length l.p ≡ 2880)
    × (length l.q ≡ 2880)
    × (l.p ≡ blank)
    × (l.q ≡ blank)
    × Bound l.best l.who
    × NotedAll l.words l.store l.asked.from l.asked.to l.asked.minute l.k l.best l.who

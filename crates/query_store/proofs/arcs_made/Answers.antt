use mathlib.Core.Path.{ap}
use mathlib.Core.Bool.{not}
use Rattle.query_store.proofs.TestLaws.{arc_bad, arc_falls, arc_good, arcs_done}
use Rattle.query_store.proofs.arcs_made.Goals as goal

pub returns-then-not-arc_made : goal.returns-then-not-arc_made
returns-then-not-arc_made c = search arc_bad

pub returns-then-not-arc_rises : goal.returns-then-not-arc_rises
returns-then-not-arc_rises c = search arc_falls

pub loop-k-preserved : goal.loop-k-preserved
loop-k-preserved c =
    arc_good _ _ _ _ c.arc_count-arcs.ensures.0 c.loop-k.invariant c.loop-k-test.true _ c.arc_made.ensures
    (ap not c.if-not-arc_made.false) _ c.arc_rises.ensures (ap not c.if-not-arc_rises.false)

pub returns : goal.returns
returns c = search arcs_done

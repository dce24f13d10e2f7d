use mathlib.Core.Path.{sym}
use mathlib.Core.Bool.{true≢false}
use borrow.Author.Rules.{rules}
use Rattle.query_store.proofs.ReadLaws.{node_first, node_present}
use Rattle.query_store.proofs.RepeatLaws.{alike_begin, alike_more, alike_done, parent_less, parent_node}
use Rattle.query_store.proofs.same_stations.Goals as goal

pub loop-u-init : goal.loop-u-init
loop-u-init c = (search rules, search rules, search alike_begin)

pub returns-then-u-eq0 : goal.returns-then-u-eq0
returns-then-u-eq0 c = λ e. absurd (true≢false (sym e))

pub returns-then-v-eq0 : goal.returns-then-v-eq0
returns-then-v-eq0 c = λ e. absurd (true≢false (sym e))

pub node_alighted-requires : goal.node_alighted-requires
node_alighted-requires c = (search node_first, search node_present)

pub node_alighted-requires-in-loop-u : goal.node_alighted-requires-in-loop-u
node_alighted-requires-in-loop-u c = (search node_first, search node_present)

pub returns-then-node_alighted : goal.returns-then-node_alighted
returns-then-node_alighted c = λ e. absurd (true≢false (sym e))

pub node_boarded-requires : goal.node_boarded-requires
node_boarded-requires c = search node_present

pub node_boarded-requires-in-loop-u : goal.node_boarded-requires-in-loop-u
node_boarded-requires-in-loop-u c = search node_present

pub returns-then-node_boarded : goal.returns-then-node_boarded
returns-then-node_boarded c = λ e. absurd (true≢false (sym e))

pub node_parent-u-requires : goal.node_parent-u-requires
node_parent-u-requires c = search node_present

pub node_parent-v-requires : goal.node_parent-v-requires
node_parent-v-requires c = search node_present

pub loop-u-smaller : goal.loop-u-smaller
loop-u-smaller c = search parent_less

pub loop-u-preserved : goal.loop-u-preserved
loop-u-preserved c = (search parent_node, search parent_node, search alike_more)

pub returns : goal.returns
returns c = λ e. search alike_done

use mathlib.Core.Path.{refl}
use borrow.Author.Rules.{rules}
use Rattle.query_store.proofs.TestLaws.{node_unlisted, node_unboarded, node_unknown, node_made, nodes_done}
use Rattle.query_store.proofs.TestLaws.{all_noted, nothing_noted, same_length as kept, node_inside}
use Rattle.query_store.proofs.TestLaws.{parent_inside, depth_small, one_deeper, root_noted}
use Rattle.query_store.proofs.nodes_made.Goals as goal

pub loop-v-init : goal.loop-v-init
loop-v-init c = (search rules, refl, search root_noted)

pub shape_of-work-then-not-is_listed : goal.shape_of-work-then-not-is_listed
shape_of-work-then-not-is_listed c = search kept

pub returns-then-not-is_listed-clause-value : goal.returns-then-not-is_listed-clause-value
returns-then-not-is_listed-clause-value c = search node_unlisted

pub returns-then-not-is_listed-clause-depths : goal.returns-then-not-is_listed-clause-depths
returns-then-not-is_listed-clause-depths c = nothing_noted _

pub shape_of-work-then-not-is_listed-2 : goal.shape_of-work-then-not-is_listed-2
shape_of-work-then-not-is_listed-2 c = search kept

pub returns-then-not-is_listed-2-clause-value : goal.returns-then-not-is_listed-2-clause-value
returns-then-not-is_listed-2-clause-value c = search node_unboarded

pub returns-then-not-is_listed-2-clause-depths : goal.returns-then-not-is_listed-2-clause-depths
returns-then-not-is_listed-2-clause-depths c = nothing_noted _

pub shape_of-work-then-v-parent : goal.shape_of-work-then-v-parent
shape_of-work-then-v-parent c = search kept

pub returns-then-v-parent-clause-value : goal.returns-then-v-parent-clause-value
returns-then-v-parent-clause-value c = search node_unknown

pub returns-then-v-parent-clause-depths : goal.returns-then-v-parent-clause-depths
returns-then-v-parent-clause-depths c = nothing_noted _

pub bounds-work-parent : goal.bounds-work-parent
bounds-work-parent c = search parent_inside

pub overflow_add-work : goal.overflow_add-work
overflow_add-work c = record { fits = search depth_small }

pub bounds-work-node : goal.bounds-work-node
bounds-work-node c = search node_inside

pub loop-v-preserved : goal.loop-v-preserved
loop-v-preserved c = (search rules, search node_made, search one_deeper)

pub shape_of-work : goal.shape_of-work
shape_of-work c = search kept

pub returns-clause-value : goal.returns-clause-value
returns-clause-value c = search nodes_done

pub returns-clause-depths : goal.returns-clause-depths
returns-clause-depths c = λ e. search all_noted

-- One arc or none.
use Rattle.words.specs.Below.{below_none, below_more}
use Rattle.store_tree.proofs.LayLaws.{arc_room, arc_written, arc_end, arc_none, none_end}
use borrow.Author.Rules.{rules}
use Rattle.store_tree.proofs.write_arc.Goals as goal

pub narrow-requires : goal.narrow-requires
narrow-requires c = (
  search arc_room,
  below_more _ _ _ (search rules) (below_more _ _ _ (search rules) (below_none _)),
)

pub returns-then-target-b-clause-store_after : goal.returns-then-target-b-clause-store_after
returns-then-target-b-clause-store_after c = search arc_written

pub returns-then-target-b-clause-value : goal.returns-then-target-b-clause-value
returns-then-target-b-clause-value c = search arc_end

pub returns-clause-store_after : goal.returns-clause-store_after
returns-clause-store_after c = search arc_none

pub returns-clause-value : goal.returns-clause-value
returns-clause-value c = search none_end

-- The labels of the parent lead to those of all its kids.
use Rattle.store_nodes.specs.Chunk.{down_fresh}
use Rattle.store_nodes.specs.Hope.{parent_standing, siblings, arcs_raised, kids_raised, family_at_hand}
use Rattle.store_nodes.specs.Hope.{family_idle}
use borrow.Author.Rules.{rules}
use Rattle.store_nodes.proofs.families.mark_siblings.Goals as goal

pub look_ahead-c-requires : goal.look_ahead-c-requires
look_ahead-c-requires c = (
  search rules,
  search rules,
  search rules,
  search rules,
  search rules,
  search parent_standing,
  search rules,
  search rules,
  search rules,
  search rules,
  search rules,
  search rules,
  search down_fresh,
  search rules,
)

pub mark_kids-requires : goal.mark_kids-requires
mark_kids-requires c = (
  search rules,
  search rules,
  search rules,
  search rules,
  search rules,
  siblings _ _ _ _ _ _ c.look_ahead-c.ensures.1 c.requires.5,
  search rules,
  search rules,
  search rules,
  search rules,
  search rules,
  search rules,
  search rules,
  search rules,
  search rules,
  search rules,
  search rules,
  search rules,
)

pub returns : goal.returns
returns c = (
  search arcs_raised,
  search kids_raised,
  search family_at_hand,
  search family_idle,
  search rules,
  search rules,
  search rules,
  search rules,
  search rules,
  search rules,
)

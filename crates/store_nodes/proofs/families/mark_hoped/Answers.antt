-- A node with which the parent does not go on has nothing to mark; the others are one change further on.
use Rattle.store_nodes.specs.Chunk.{part_64, part_320, marked_long_64, marked_long_320}
use Rattle.store_nodes.specs.Hope.{arcs_none, kids_none, stays_same, arcs_told, kids_told, stays}
use Rattle.store_nodes.specs.Hope.{hope_inside, not_hoped}
use borrow.Author.Rules.{rules}
use Rattle.store_nodes.proofs.families.mark_hoped.Goals as goal

pub bounds-hope-slot_of : goal.bounds-hope-slot_of
bounds-hope-slot_of c = search hope_inside

pub returns-then-hope-slot_of-ne1 : goal.returns-then-hope-slot_of-ne1
returns-then-hope-slot_of-ne1 c = (
  search (arcs_none, not_hoped),
  search (kids_none, not_hoped),
  search (stays_same, not_hoped),
  search rules,
  search rules,
  search rules,
  search rules,
)

pub mark_kid-requires : goal.mark_kid-requires
mark_kid-requires c = (
  search rules,
  search rules,
  search rules,
  search rules,
  search rules,
  search rules,
  search rules,
  search rules,
  search rules,
  search rules,
  search rules,
  search rules,
  search part_64,
  search part_320,
)

pub returns : goal.returns
returns c = (
  search arcs_told,
  search kids_told,
  search stays,
  search rules,
  search rules,
  search marked_long_64,
  search marked_long_320,
)

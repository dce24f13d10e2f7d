-- All flags of kids were down, so those that are up are the ones that are told at this minute.
use Rattle.store_nodes.specs.Hope.{joined_kids, unmarked}
use Rattle.store_nodes.specs.Chunk.{down_fresh}
use borrow.Author.Rules.{rules}
use Rattle.store_nodes.proofs.families.mark_labelled.Goals as goal

pub returns : goal.returns
returns c = (search rules, search (joined_kids, down_fresh), search unmarked, search rules, search rules)

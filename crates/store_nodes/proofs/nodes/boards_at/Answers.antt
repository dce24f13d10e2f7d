-- The slot of the word tells the stations of the change.
use borrow.Author.Rules.{rules}
use Rattle.store_nodes.specs.Hand.{slot_small_too, boards_there}
use Rattle.store_nodes.proofs.nodes.boards_at.Goals as goal

pub transfer_at-requires : goal.transfer_at-requires
transfer_at-requires c = (search rules, search rules, search slot_small_too)

pub returns : goal.returns
returns c = search boards_there

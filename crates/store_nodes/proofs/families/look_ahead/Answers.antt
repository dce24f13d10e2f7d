-- All flags were down, so those are up that the marks of the node tell.
use Rattle.store_nodes.specs.Hope.{family, stationed}
use borrow.Author.Rules.{rules}
use Rattle.store_nodes.proofs.families.look_ahead.Goals as goal

pub returns : goal.returns
returns c = (
  search family,
  search stationed,
  search rules,
  search rules,
  search rules,
  search rules,
  search rules,
  search rules,
)

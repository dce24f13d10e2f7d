-- Nothing is low enough at the source.
use Rattle.store_frontier.specs.Allowing.{top_here, top_other}
use Rattle.store_frontier.proofs.top_of.Goals as goal

pub returns-then-c-source : goal.returns-then-c-source
returns-then-c-source c = search top_here

pub returns : goal.returns
returns c = search top_other

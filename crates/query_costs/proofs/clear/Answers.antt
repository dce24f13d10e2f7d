use borrow.Author.Rules.{rules}
use Rattle.query_costs.specs.Falling.{clear_more, clear_done}
use Rattle.query_costs.proofs.LowestLaws.{lowest_short}
use Rattle.query_costs.proofs.clear.Goals as goal

pub loop-m-init : goal.loop-m-init
loop-m-init c = (search rules, search lowest_short, search rules)

pub loop-m-preserved : goal.loop-m-preserved
loop-m-preserved c = (search rules, search rules, search clear_more)

pub returns-clause-p_after : goal.returns-clause-p_after
returns-clause-p_after c = search clear_done

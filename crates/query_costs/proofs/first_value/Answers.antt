use borrow.Author.Rules.{rules}
use Rattle.query_costs.proofs.LowestLaws.{looks_on, none_left, found, goes_on}
use Rattle.query_costs.proofs.first_value.Goals as goal

pub loop-m-init : goal.loop-m-init
loop-m-init c = search looks_on

pub loop-m-preserved : goal.loop-m-preserved
loop-m-preserved c = search goes_on

pub returns : goal.returns
returns c = (
  none_left c.args.p.now c.loop-m.m c.loop-m.invariant (search rules) (search rules),
  search rules,
  search rules,
)

pub returns-then-less : goal.returns-then-less
returns-then-less c = (search found, search rules, search rules)

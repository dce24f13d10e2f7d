use borrow.Author.Rules.{rules}
use Rattle.query_layers.proofs.LayerLaws.{keeps_none}
use Rattle.query_shown.proofs.WayLaws.{starts_there, starts, none_there}
use Rattle.query_shown.proofs.WayLaws.{onward_first, onward_stands, onward_more, onward_arrives}
use Rattle.query_shown.proofs.first_in_time.Goals as goal

pub rest-kept-requires : goal.rest-kept-requires
rest-kept-requires c = (
  search rules,
  search rules,
  search rules,
  search rules,
  search keeps_none,
  search rules,
  search
      rules,
)

pub ride_on-head-requires : goal.ride_on-head-requires
ride_on-head-requires c = (search rules, search rules, search starts_there, search rules, search rules)

pub returns-then-not-head-clause-found_at : goal.returns-then-not-head-clause-found_at
returns-then-not-head-clause-found_at c = search (none_there, c.requires, c.ride_on-head.ensures)

pub loop-i-init : goal.loop-i-init
loop-i-init c = (
  onward_first c.args.sought.points (search (starts, c.requires, c.ride_on-head.ensures)),
  search c.rest-kept.ensures,
  c.requires.0.few,
  search rules,
  search rules,
  search rules,
  search rules,
  search rules,
)

pub ride_on-next-requires : goal.ride_on-next-requires
ride_on-next-requires c = let riding = c.loop-i.invariant.0 in
    (search rules, search rules, search (onward_stands, riding), search rules, search rules)

pub loop-i-preserved : goal.loop-i-preserved
loop-i-preserved c = (
  search onward_more,
  search rules,
  search rules,
  search rules,
  search rules,
  search rules,
  search rules,
  search rules,
)

pub shape_of-z : goal.shape_of-z
shape_of-z c = search (rules, c.requires)

pub shape_of-old : goal.shape_of-old
shape_of-old c = search (rules, c.requires)

pub returns-clause-found_at : goal.returns-clause-found_at
returns-clause-found_at c = search (onward_arrives, c.requires, c.ride_on-head.ensures, c.loop-i.invariant.0)

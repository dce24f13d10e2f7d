use mathlib.Core.Path.{refl}
use borrow.Author.Rules.{rules}
use Rattle.query_costs.specs.Falling.{lowest_kept, lowest_falls_now}
use Rattle.query_costs.proofs.LowestLaws.{lowest_short, lowest_first, rest_same, lowest_more}
use Rattle.query_costs.proofs.lowest_so_far.Goals as goal

pub loop-m-init : goal.loop-m-init
loop-m-init c = (search rules, search lowest_short, search rules, search rules, refl, search lowest_first)

pub loop-m-preserved : goal.loop-m-preserved
loop-m-preserved c = (
  search rules,
  search rules,
  search rules,
  search rules,
  search rest_same,
  lowest_more _ _ c.loop-m.least.0 c.loop-m.m c.loop-m.invariant.3 c.loop-m.invariant.5 _ _ _ _
      c.set_points.ensures.best_after (search rules) c.loop-m.invariant.1
      c.points_at.ensures c.lesser-least.ensures,
)

pub returns-clause-p_unchanged : goal.returns-clause-p_unchanged
returns-clause-p_unchanged c = (search lowest_kept, search lowest_falls_now)

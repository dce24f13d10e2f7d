use Prim.Native.Nat.{◌-◌}
use Rattle.query_rows.proofs.PassLaws.{counting_begin, all_counted, all_led_now}
use Rattle.query_rows.proofs.PointLaws.{count_skip_at, count_leading_at, count_named_at, count_row_at, named_at}
use borrow.Author.Rules.{rules}
use Rattle.query_rows.proofs.measure.Goals as goal

pub loop-arrive-init : goal.loop-arrive-init
loop-arrive-init c = (
  search rules,
  search rules,
  search rules,
  search rules,
  search rules,
  search rules,
  search
      counting_begin,
)

pub loop-arrive-preserved-then-not-less : goal.loop-arrive-preserved-then-not-less
loop-arrive-preserved-then-not-less c = (
  search rules,
  search rules,
  search rules,
  search rules,
  search rules,
  search rules,
  search count_skip_at,
)

pub name_arc-count-requires : goal.name_arc-count-requires
name_arc-count-requires c = (
  search rules,
  search count_leading_at,
  search count_named_at,
  search rules,
  search rules,
  search rules,
)

pub loop-arrive-preserved : goal.loop-arrive-preserved
loop-arrive-preserved c = (
  search rules,
  search rules,
  search rules,
  search rules,
  search rules,
  named_at _ _ _ _ _ _ _ _ _ _ _ _ c.points_at-points.ensures c.requires.0 c.requires.1 c.requires.4
      c.loop-arrive.invariant.6 _ c.loop-arrive.invariant.2 (search rules) _ c.less.ensures (search rules) _ _
      c.loop-arrive.invariant.3 c.name_arc-count.ensures.named_row.0 c.loop-arrive.invariant.5,
  count_row_at _ _ _ _ _ _ _ _ _ _ _ _ c.points_at-points.ensures c.requires.0 c.requires.1 c.requires.4
      c.loop-arrive.invariant.6 _ c.loop-arrive.invariant.2 (search rules) _ c.less.ensures (search rules) _ _
      c.loop-arrive.invariant.3 c.name_arc-count.ensures.named_row.0,
)

pub returns-clause-value : goal.returns-clause-value
returns-clause-value c = (search all_counted, search all_led_now)

use mathlib.Core.Path.{ap}
use lib.ListN.{length}
use borrow.Author.Rules.{rules}
use Rattle.query_costs.specs.Spans.{within_from}
use Rattle.query_costs.specs.Onward.{fitting}
use Rattle.query_costs.proofs.RideLaws.{span_none}
use Rattle.query_costs.proofs.PatternLaws.{alighted_here, boarded_here}
use Rattle.query_costs.proofs.PatternLaws.{ready_first, ready_next, ended, stopped}
use Rattle.query_costs.proofs.PatternLaws.{falls_begin, spare_begin, first_blank, second_blank}
use Rattle.query_costs.proofs.note_pattern.Goals as goal

pub loop-j-init : goal.loop-j-init
loop-j-init c = (
  search rules,
  search rules,
  search rules,
  search rules,
  search rules,
  search rules,
  search falls_begin,
  search spare_begin,
  search ready_first,
  search rules,
  search rules,
  search rules,
  search rules,
)

pub finish_turned-requires : goal.finish_turned-requires
finish_turned-requires c = (search rules, search rules, search rules, search rules, search rules, search fitting)

pub step_turned-s-requires-clause-in_bounds : goal.step_turned-s-requires-clause-in_bounds
step_turned-s-requires-clause-in_bounds c = (search rules, search rules, search alighted_here)

pub step_turned-s-requires-clause-falls : goal.step_turned-s-requires-clause-falls
step_turned-s-requires-clause-falls c = (search rules, search rules, search rules, search rules, search fitting)

pub loop-j-preserved : goal.loop-j-preserved
loop-j-preserved c = (
  search rules,
  search rules,
  search rules,
  search rules,
  search rules,
  boarded_here _ _ _ _ _ c.requires.le_r.3 (search rules) c.word-boarded.ensures.0,
  c.step_turned-s.ensures.falls_2.0,
  c.step_turned-s.ensures.q_after_2.0,
  ready_next _ c.requires.in_bounds.1 _ c.requires.in_bounds.2 _ _ _ c.loop-j.invariant.0 c.requires.le_r.3 _ _ _ _
      c.loop-j.invariant.5 _
      c.loop-j.invariant.8 _ c.word-alighted.ensures.0 _ c.word-boarded.ensures.0 _ c.step_turned-s.ensures.q_after _
      c.step_turned-s.ensures.falls_2.1,
  search rules,
  search rules,
  search rules,
  search rules,
)

pub returns-clause-lowered : goal.returns-clause-lowered
returns-clause-lowered c = ended _ c.requires.in_bounds.1 _ c.requires.in_bounds.2 _ _ _ c.loop-j.invariant.0
    c.requires.le_r.3 _ _ _ _ c.loop-j.invariant.5 _
    c.loop-j.invariant.8 _ (search rules) c.word-to.ensures.0 _ _ _ c.requires.p_value.4 c.loop-j.invariant.4
    c.finish_turned.ensures.best_after

pub returns-clause-within : goal.returns-clause-within
returns-clause-within c = search within_from

pub returns-then-s-ge-MINUTES-clause-lowered : goal.returns-then-s-ge-MINUTES-clause-lowered
returns-then-s-ge-MINUTES-clause-lowered c = stopped _ c.requires.in_bounds.1 _ c.requires.in_bounds.2 _ _ _
    c.loop-j.invariant.0 c.requires.le_r.3 _ _ _ _ c.loop-j.invariant.5 _
    c.loop-j.invariant.8 _ c.word-alighted.ensures.0 _ c.word-boarded.ensures.0 (search rules) _
    c.step_turned-s.ensures.q_after _ c.step_turned-s.ensures.falls_2.1 c.step_turned-s.ensures.falls_2.2
    c.if-s-ge-MINUTES.true _ _ c.loop-j.invariant.4

pub returns-then-s-ge-MINUTES-clause-p_after : goal.returns-then-s-ge-MINUTES-clause-p_after
returns-then-s-ge-MINUTES-clause-p_after c = (
  first_blank _ _ _ c.step_turned-s.ensures.q_after_2.0 _ c.step_turned-s.ensures.falls_2.0 c.if-s-ge-MINUTES.true,
  second_blank _ _ _ c.step_turned-s.ensures.q_after_2.0 _ c.step_turned-s.ensures.falls_2.0 c.if-s-ge-MINUTES.true,
  search rules,
  search rules,
  ap length c.loop-j.invariant.4,
)

pub returns-then-s-ge-MINUTES-clause-within : goal.returns-then-s-ge-MINUTES-clause-within
returns-then-s-ge-MINUTES-clause-within c = search span_none

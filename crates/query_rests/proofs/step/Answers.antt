-- The promises of the callees, one put into the other. The rides that are noted leave the window as it is.
use borrow.Author.Rules.{rules}
use Rattle.query_rests.proofs.PatternLaws.{back_first, back_most, back_few, back_inside, gathered_spans}
use Rattle.query_rests.proofs.PatternLaws.{kept_spans}
use Rattle.query_rests.proofs.GatherLaws.{step_done}
use Rattle.query_rests.proofs.step.Goals as goal

pub gather_back-requires : goal.gather_back-requires
gather_back-requires c = (
  search rules,
  search rules,
  search rules,
  search rules,
  search back_few,
  search back_inside,
  search back_first,
  search back_most,
)

pub settle-requires : goal.settle-requires
settle-requires c = (search rules, search rules, search gathered_spans)

pub returns-clause-z_after : goal.returns-clause-z_after
returns-clause-z_after c = (search step_done, search rules, search kept_spans)

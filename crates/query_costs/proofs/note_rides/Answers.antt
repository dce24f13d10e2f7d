use borrow.Author.Rules.{rules}
use Rattle.query_rides.specs.Riding.{near_falls, good_some, good_told}
use Rattle.query_costs.proofs.RideLaws.{fitting_first, fitting_next, fits_here, noting_first, noting_more}
use Rattle.query_costs.proofs.RideLaws.{noting_done, span_first, span_more, span_low}
use Rattle.query_costs.proofs.note_rides.Goals as goal

pub loop-next-init : goal.loop-next-init
loop-next-init c = (
  search rules,
  search fitting_first,
  search rules,
  search rules,
  search span_first,
  search rules,
  search noting_first,
)

pub tell-requires : goal.tell-requires
tell-requires c = search good_told

pub next_nearest-next-requires : goal.next_nearest-next-requires
next_nearest-next-requires c = search good_some

pub note_ride-noted-requires : goal.note_ride-noted-requires
note_ride-noted-requires c = (search rules, search (fits_here, good_some), search rules, search rules)

pub loop-next-smaller : goal.loop-next-smaller
loop-next-smaller c = search near_falls

pub loop-next-preserved : goal.loop-next-preserved
loop-next-preserved c = (
  search rules,
  search fitting_next,
  search rules,
  search rules,
  search span_more,
  search span_low,
  search noting_more,
)

pub returns-clause-best_after : goal.returns-clause-best_after
returns-clause-best_after c = search noting_done

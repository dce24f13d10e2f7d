use mathlib.Core.Path.{refl}
use borrow.Author.Rules.{rules}
use Rattle.query_minutes.specs.Compared.{same_yes, same_no}
use Rattle.timetable.specs.Access.{stations_few}
use Rattle.store_marks.proofs.RideLaws.{next_arrival, next_counts, more_small, ride_ends, nearer, on_goes}
use Rattle.store_marks.proofs.RideLaws.{points_of, boards_cheap, more_fits, on_points, more_most, ride_on_lem}
use Rattle.store_marks.proofs.mark_on.Goals as goal

pub stop_at-requires : goal.stop_at-requires
stop_at-requires c = (search rules, search stations_few, search rules)

pub loop-y-init : goal.loop-y-init
loop-y-init c = (
  search rules,
  search rules,
  search points_of,
  search boards_cheap,
  search rules,
  search rules,
  search rules,
  search rules,
  refl,
  refl,
)

pub sum-y-requires : goal.sum-y-requires
sum-y-requires c = search more_fits

pub overflow_add-j : goal.overflow_add-j
overflow_add-j c = record { fits = search next_counts }

pub mark_turn-ride-requires-clause-arrival : goal.mark_turn-ride-requires-clause-arrival
mark_turn-ride-requires-clause-arrival c = (search next_arrival, search more_small)

pub returns-then-same-clause-arcs_after : goal.returns-then-same-clause-arcs_after
returns-then-same-clause-arcs_after c = search (ride_ends, same_yes)

pub returns-then-same-clause-kids_after : goal.returns-then-same-clause-kids_after
returns-then-same-clause-kids_after c = search (ride_ends, same_yes)

pub loop-y-smaller : goal.loop-y-smaller
loop-y-smaller c = search nearer

pub loop-y-preserved : goal.loop-y-preserved
loop-y-preserved c = (
  search rules,
  search (on_goes, same_no),
  search (on_points, same_no),
  search more_most,
  search rules,
  search rules,
  search rules,
  search rules,
  search (ride_on_lem, same_no),
  search (ride_on_lem, same_no),
)

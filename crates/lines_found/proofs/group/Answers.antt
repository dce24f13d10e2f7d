use Prim.Native.Nat.{◌-◌}
use borrow.Author.Rules.{rules}
use Rattle.lines_found.specs.Taken.{opened_chains}
use Rattle.lines_order.specs.Steps.{trips_most_lem}
use Rattle.lines_found.proofs.GroupLaws.{kept_starts, given_order, next_listed, kept_next}
use Rattle.lines_found.proofs.GroupLaws.{lasts_listed, chains_next, ends_inside, is_count, are_numbers, are_ends}
use Rattle.lines_found.proofs.group.Goals as goal

pub loop-k-init : goal.loop-k-init
loop-k-init c = (
  search rules,
  search trips_most_lem,
  search given_order,
  search rules,
  search rules,
  search rules,
  search rules,
  search rules,
  search kept_starts,
  search opened_chains,
)

pub take_trip-line-requires-clause-in_bounds : goal.take_trip-line-requires-clause-in_bounds
take_trip-line-requires-clause-in_bounds c = (search rules, search rules, search next_listed)

pub take_trip-line-requires-clause-lasts_len : goal.take_trip-line-requires-clause-lasts_len
take_trip-line-requires-clause-lasts_len c = (search rules, search rules, search lasts_listed)

pub join-count-requires-clause-line_le_lines : goal.join-count-requires-clause-line_le_lines
join-count-requires-clause-line_le_lines c = (search rules, search rules, search rules, search ends_inside)

pub loop-k-preserved : goal.loop-k-preserved
loop-k-preserved c = (
  search rules,
  search rules,
  search rules,
  search rules,
  search rules,
  search rules,
  search rules,
  search rules,
  search kept_next,
  search chains_next,
)

pub returns : goal.returns
returns c = (search is_count, search are_numbers, search are_ends)

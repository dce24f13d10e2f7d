-- The trips before the place, then the other's trip.
use borrow.Author.Rules.{rules}
use Rattle.changes_words.proofs.FillLaws.{extra_okay, extra_least, extra_trips, extra_room, middle_trips}
use Rattle.changes_words.proofs.FillLaws.{middle_stops, filled_middle}
use Rattle.changes_words.proofs.fill_middle.Goals as goal

pub append-requires : goal.append-requires
append-requires c = (
  search rules,
  search extra_okay,
  search rules,
  search extra_least,
  search rules,
  search rules,
  search rules,
  search extra_trips,
  search extra_room,
)

pub returns-clause-middle : goal.returns-clause-middle
returns-clause-middle c = search filled_middle

pub returns-clause-body_len_unchanged : goal.returns-clause-body_len_unchanged
returns-clause-body_len_unchanged c = (
  search rules,
  search rules,
  search rules,
  search middle_trips,
  search
      middle_stops,
)

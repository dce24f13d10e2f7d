-- The other's trip stands behind the trips before the place; the trips from the place on follow.
use borrow.Author.Rules.{rules}
use Rattle.changes_words.proofs.FillLaws.{back_most, place_least, rest_trips, rest_stops, filled_with}
use Rattle.changes_words.proofs.FillLaws.{with_trips, with_stops}
use Rattle.changes_words.proofs.fill_with.Goals as goal

pub append-requires : goal.append-requires
append-requires c = (
  search rules,
  search rules,
  search place_least,
  search back_most,
  search rules,
  search rules,
  search rules,
  search rest_trips,
  search rest_stops,
)

pub returns-clause-filled : goal.returns-clause-filled
returns-clause-filled c = search filled_with

pub returns-clause-body_len_unchanged : goal.returns-clause-body_len_unchanged
returns-clause-body_len_unchanged c = (search rules, search rules, search rules, search with_trips, search with_stops)

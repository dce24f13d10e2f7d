-- The trips before the place, then those behind it.
use native.Mathlib.Nat.{le_of_lt}
use borrow.Author.Rules.{rules}
use Rattle.changes_words.proofs.FillLaws.{back_most, after_least, after_few, after_stops, filled_without}
use Rattle.changes_words.proofs.FillLaws.{without_trips, without_stops}
use Rattle.changes_words.proofs.fill_without.Goals as goal

pub fill_front-before-requires : goal.fill_front-before-requires
fill_front-before-requires c = (search rules, search rules, search le_of_lt, search rules, search rules, search rules)

pub append-requires : goal.append-requires
append-requires c = (
  search rules,
  search rules,
  search after_least,
  search back_most,
  search rules,
  search rules,
  search rules,
  search after_few,
  search after_stops,
)

pub returns-clause-filled : goal.returns-clause-filled
returns-clause-filled c = search filled_without

pub returns-clause-body_len_unchanged : goal.returns-clause-body_len_unchanged
returns-clause-body_len_unchanged c = (
  search rules,
  search rules,
  search rules,
  search without_trips,
  search
      without_stops,
)

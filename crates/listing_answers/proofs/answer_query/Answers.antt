-- The query's own number, or what it prints without one.
use Rattle.listing_answers.proofs.QueryLaws.{own_none, first_count, first_words_lem}
use mathlib.Core.Path.{refl}
use Rattle.questions.specs.Refused.{number_some}
use borrow.Author.Rules.{rules}
use Rattle.listing_answers.proofs.answer_query.Goals as goal

pub returns-in-Err-clause-count_value : goal.returns-in-Err-clause-count_value
returns-in-Err-clause-count_value c = (
  search (first_count, number_some, c.in-Err.ensures),
  search (first_words_lem, number_some, c.in-Err.ensures),
  search rules,
  search rules,
  search rules,
)

pub answer_stored-requires : goal.answer_stored-requires
answer_stored-requires c = (
  search rules,
  search rules,
  search rules,
  search rules,
  search rules,
  search (own_none, refl, c.in-Ok.ensures),
)

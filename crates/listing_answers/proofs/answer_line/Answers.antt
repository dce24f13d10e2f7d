-- What the line asks says what is printed.
use Rattle.listing_answers.proofs.LineLaws.{asked_count, asked_words, misshapen_count, misshapen_words}
use borrow.Author.Rules.{rules}
use Rattle.listing_answers.proofs.answer_line.Goals as goal

pub returns-in-Some-clause-count_value : goal.returns-in-Some-clause-count_value
returns-in-Some-clause-count_value c = (
  search asked_count,
  search asked_words,
  search rules,
  search rules,
  search rules,
)

pub returns-in-None-clause-count_value : goal.returns-in-None-clause-count_value
returns-in-None-clause-count_value c = (
  search misshapen_count,
  search misshapen_words,
  search rules,
  search rules,
  search rules,
)

-- Without a connection nothing is written; else the rows are shown.
use Rattle.query_answer.proofs.AnswerLaws.{none_reply, none_words}
use Rattle.query_rows.specs.Named.{noted_named}
use borrow.Author.Rules.{rules}
use Rattle.query_answer.proofs.show.Goals as goal

pub returns-then-rows-lt1-clause-value : goal.returns-then-rows-lt1-clause-value
returns-then-rows-lt1-clause-value c = search none_reply

pub returns-then-rows-lt1-clause-answer_after : goal.returns-then-rows-lt1-clause-answer_after
returns-then-rows-lt1-clause-answer_after c = search none_words

pub show_rows-requires : goal.show_rows-requires
show_rows-requires c = (
  search rules,
  search rules,
  search noted_named,
  search rules,
  search rules,
  search rules,
  search rules,
  search rules,
  search rules,
  search rules,
)

-- The penalties of the minutes stand in an array of the function itself, the rides in what is lent.
use Rattle.query_direct.proofs.ShownLaws.{none_reply, none_words, short_reply, short_words}
use Rattle.query_direct.proofs.ShownLaws.{rows_room, done_reply, done_words}
use borrow.Author.Rules.{rules}
use Rattle.query_direct.proofs.show.Goals as goal

pub returns-then-count-lt1-clause-value : goal.returns-then-count-lt1-clause-value
returns-then-count-lt1-clause-value c = search none_reply

pub returns-then-count-lt1-clause-answer_after : goal.returns-then-count-lt1-clause-answer_after
returns-then-count-lt1-clause-answer_after c = search none_words

pub returns-then-answer-count-clause-value : goal.returns-then-answer-count-clause-value
returns-then-answer-count-clause-value c = search short_reply

pub returns-then-answer-count-clause-answer_after : goal.returns-then-answer-count-clause-answer_after
returns-then-answer-count-clause-answer_after c = search short_words

pub write_rows-requires : goal.write_rows-requires
write_rows-requires c = (search rules, search rules, search rows_room)

pub returns-clause-value : goal.returns-clause-value
returns-clause-value c = search done_reply

pub returns-clause-answer_after : goal.returns-clause-answer_after
returns-clause-answer_after c = search done_words

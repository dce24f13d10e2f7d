-- Two ways out: too little room, or the rows written.
use Rattle.query_answer.proofs.AnswerLaws.{rows_room, short_reply, short_words, done_reply, done_words}
use borrow.Author.Rules.{rules}
use Rattle.query_answer.proofs.show_rows.Goals as goal

pub returns-then-answer-long-clause-value : goal.returns-then-answer-long-clause-value
returns-then-answer-long-clause-value c = search short_reply

pub returns-then-answer-long-clause-answer_after : goal.returns-then-answer-long-clause-answer_after
returns-then-answer-long-clause-answer_after c = search short_words

pub write_rows-requires : goal.write_rows-requires
write_rows-requires c = let room = rows_room _ _ _ c.measure-long.ensures.value.0 c.if-answer-long.false in
    (search rules, search rules, search rules, search rules, search rules, search rules, search rules, room)

pub returns-clause-value : goal.returns-clause-value
returns-clause-value c = search done_reply

pub returns-clause-answer_after : goal.returns-clause-answer_after
returns-clause-answer_after c = search done_words

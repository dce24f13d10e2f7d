-- Question 13 with its way out, and what is granted then.
use Rattle.query_call.specs.Shown.{badly_reply, badly_words, granted, shown_reply_lem, shown_words_lem}
use Rattle.query_call.proofs.RoomLaws.{words_long, work_room, minutes_room}
use Rattle.query_call.proofs.query_stored.Goals as goal

pub is_made-requires : goal.is_made-requires
is_made-requires c = (search words_long, search work_room)

pub returns-then-not-is_made-clause-value : goal.returns-then-not-is_made-clause-value
returns-then-not-is_made-clause-value c = search badly_reply

pub returns-then-not-is_made-clause-answer_after : goal.returns-then-not-is_made-clause-answer_after
returns-then-not-is_made-clause-answer_after c = search badly_words

pub show-requires : goal.show-requires
show-requires c = (search granted, search minutes_room)

pub returns-clause-value : goal.returns-clause-value
returns-clause-value c = search shown_reply_lem

pub returns-clause-answer_after : goal.returns-clause-answer_after
returns-clause-answer_after c = search shown_words_lem

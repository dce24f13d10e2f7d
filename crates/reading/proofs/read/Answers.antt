-- Two refusals come before the lines are read. Then the answer of the lines decides, and only an accepted text has its
-- words written.
use Rattle.std.proofs.Common.{refl}
use Rattle.std.proofs.lemmas.Result.{err_from_is_err_and}
use borrow.Author.Rules.{rules}
use Rattle.reading.specs.Lines.{Accepted as LinesAccepted}
use Rattle.reading.proofs.ReadLaws.{short_reply, short_values, short_words, long_reply, long_values, long_words}
use Rattle.reading.proofs.ReadLaws.{refused_reply, refused_values, refusal_keeps, few_stations, few_trips, few_stops}
use Rattle.reading.proofs.ReadLaws.{few_walks_lem, done_reply, done_values, done_words}
use Rattle.reading.proofs.read.Goals as goal

pub returns-then-timetable-lt-WORDS_LEAST-clause-reply : goal.returns-then-timetable-lt-WORDS_LEAST-clause-reply
returns-then-timetable-lt-WORDS_LEAST-clause-reply c = search short_reply

pub returns-then-timetable-lt-WORDS_LEAST-clause-values : goal.returns-then-timetable-lt-WORDS_LEAST-clause-values
returns-then-timetable-lt-WORDS_LEAST-clause-values c = search short_values

pub returns-then-timetable-lt-WORDS_LEAST-clause-words : goal.returns-then-timetable-lt-WORDS_LEAST-clause-words
returns-then-timetable-lt-WORDS_LEAST-clause-words c = search short_words

pub returns-then-text-gt-TEXT_MOST-clause-reply : goal.returns-then-text-gt-TEXT_MOST-clause-reply
returns-then-text-gt-TEXT_MOST-clause-reply c = search long_reply

pub returns-then-text-gt-TEXT_MOST-clause-values : goal.returns-then-text-gt-TEXT_MOST-clause-values
returns-then-text-gt-TEXT_MOST-clause-values c = search long_values

pub returns-then-text-gt-TEXT_MOST-clause-words : goal.returns-then-text-gt-TEXT_MOST-clause-words
returns-then-text-gt-TEXT_MOST-clause-words c = search long_words

pub returns-in_err-p-clause-reply : goal.returns-in_err-p-clause-reply
returns-in_err-p-clause-reply c =
    let p = err_from_is_err_and c.from_residual.result c.from_residual.ensures.1 in
    rw (p.1, p.2) (search (refused_reply, c.in_err-p.ensures))

pub returns-in_err-p-clause-values : goal.returns-in_err-p-clause-values
returns-in_err-p-clause-values c =
    let p = err_from_is_err_and c.from_residual.result c.from_residual.ensures.1 in
    rw (p.1, p.2) (search (refused_values, c.in_err-p.ensures))

pub returns-in_err-p-clause-words : goal.returns-in_err-p-clause-words
returns-in_err-p-clause-words c =
    let p = err_from_is_err_and c.from_residual.result c.from_residual.ensures.1 in
    refusal_keeps c.args.text.now c.args.timetable.now c.from_residual.result p.0 p.1 (returns-in_err-p-clause-reply c)

pub write_timetable-requires : goal.write_timetable-requires
write_timetable-requires c = (
  few_stations c.args.text.now c.args.timetable.now c.if-timetable-lt-WORDS_LEAST.false
      c.if-text-gt-TEXT_MOST.false (LinesAccepted c.in_ok-p.p c.in_ok-p.lines) _ _ _ _ _ _ c.in_ok-p.ensures
      c.in_ok-p.p c.in_ok-p.lines refl,
  few_trips c.args.text.now c.args.timetable.now c.if-timetable-lt-WORDS_LEAST.false
      c.if-text-gt-TEXT_MOST.false (LinesAccepted c.in_ok-p.p c.in_ok-p.lines) _ _ _ _ _ _ c.in_ok-p.ensures
      c.in_ok-p.p c.in_ok-p.lines refl,
  few_stops c.args.text.now c.args.timetable.now c.if-timetable-lt-WORDS_LEAST.false
      c.if-text-gt-TEXT_MOST.false (LinesAccepted c.in_ok-p.p c.in_ok-p.lines) _ _ _ _ _ _ c.in_ok-p.ensures
      c.in_ok-p.p c.in_ok-p.lines refl,
  few_walks_lem c.args.text.now c.args.timetable.now c.if-timetable-lt-WORDS_LEAST.false
      c.if-text-gt-TEXT_MOST.false (LinesAccepted c.in_ok-p.p c.in_ok-p.lines) _ _ _ _ _ _ c.in_ok-p.ensures
      c.in_ok-p.p c.in_ok-p.lines refl,
  search rules,
  search rules,
  search rules,
  search rules,
)

pub returns-clause-reply : goal.returns-clause-reply
returns-clause-reply c =
    done_reply c.args.text.now c.args.timetable.now c.if-timetable-lt-WORDS_LEAST.false
    c.if-text-gt-TEXT_MOST.false (LinesAccepted c.in_ok-p.p c.in_ok-p.lines) _ _ _ _ _ _ c.in_ok-p.ensures
    c.in_ok-p.p c.in_ok-p.lines refl

pub returns-clause-values : goal.returns-clause-values
returns-clause-values c =
    done_values c.args.text.now c.args.timetable.now c.if-timetable-lt-WORDS_LEAST.false
    c.if-text-gt-TEXT_MOST.false (LinesAccepted c.in_ok-p.p c.in_ok-p.lines) _ _ _ _ _ _ c.in_ok-p.ensures
    c.in_ok-p.p c.in_ok-p.lines refl

pub returns-clause-words : goal.returns-clause-words
returns-clause-words c =
    done_words c.args.text.now c.args.timetable.now c.if-timetable-lt-WORDS_LEAST.false
    c.if-text-gt-TEXT_MOST.false (LinesAccepted c.in_ok-p.p c.in_ok-p.lines) _ _ _ _ _ _ c.in_ok-p.ensures
    c.in_ok-p.p c.in_ok-p.lines refl _
    c.write_timetable.ensures.timetable_after

-- Three slices may be too short, and then the words may be no timetable. Otherwise the tables are built.
use borrow.Author.Rules.{rules}
use Rattle.lines_tables.specs.Copied.{part_long, asked_yes}
use Rattle.lines_call.proofs.BuildLaws.{words_short_reply, words_short_words, lines_short_reply}
use Rattle.lines_call.proofs.BuildLaws.{lines_short_words, work_short_reply, work_short_words}
use Rattle.lines_call.proofs.BuildLaws.{no_timetable_reply, no_timetable_words, done_reply, done_words}
use Rattle.lines_call.proofs.build_asked.Goals as goal

pub returns-then-words-lt-WORDS_LEAST-clause-value : goal.returns-then-words-lt-WORDS_LEAST-clause-value
returns-then-words-lt-WORDS_LEAST-clause-value c = search words_short_reply

pub returns-then-words-lt-WORDS_LEAST-clause-lines_after : goal.returns-then-words-lt-WORDS_LEAST-clause-lines_after
returns-then-words-lt-WORDS_LEAST-clause-lines_after c = search words_short_words

pub returns-then-lines-lt-WORDS_LEAST-clause-value : goal.returns-then-lines-lt-WORDS_LEAST-clause-value
returns-then-lines-lt-WORDS_LEAST-clause-value c = search lines_short_reply

pub returns-then-lines-lt-WORDS_LEAST-clause-lines_after : goal.returns-then-lines-lt-WORDS_LEAST-clause-lines_after
returns-then-lines-lt-WORDS_LEAST-clause-lines_after c = search lines_short_words

pub returns-then-work-lt-WORDS_LEAST-clause-value : goal.returns-then-work-lt-WORDS_LEAST-clause-value
returns-then-work-lt-WORDS_LEAST-clause-value c = search work_short_reply

pub returns-then-work-lt-WORDS_LEAST-clause-lines_after : goal.returns-then-work-lt-WORDS_LEAST-clause-lines_after
returns-then-work-lt-WORDS_LEAST-clause-lines_after c = search work_short_words

pub returns-then-not-is_timetable-clause-value : goal.returns-then-not-is_timetable-clause-value
returns-then-not-is_timetable-clause-value c = search no_timetable_reply

pub returns-then-not-is_timetable-clause-lines_after : goal.returns-then-not-is_timetable-clause-lines_after
returns-then-not-is_timetable-clause-lines_after c = search no_timetable_words

pub order_trips-requires-clause-in_bounds : goal.order_trips-requires-clause-in_bounds
order_trips-requires-clause-in_bounds c = (search rules, search asked_yes, search rules)

pub build_tables-count-requires : goal.build_tables-count-requires
build_tables-count-requires c = (
  search rules,
  search asked_yes,
  search rules,
  search rules,
  search rules,
  search
      part_long,
)

pub returns-clause-value : goal.returns-clause-value
returns-clause-value c = search done_reply

pub returns-clause-lines_after : goal.returns-clause-lines_after
returns-clause-lines_after c = search done_words

-- Three slices may be too short, and then the words may be no timetable. Otherwise the tables decide.
use native.Mathlib.Omega.{arith}
use borrow.Author.Rules.{rules}
use Rattle.lines_tables.specs.Copied.{asked_yes, part_long}
use Rattle.lines_check.specs.Ordered.{some_order, no_order}
use Rattle.lines_check.proofs.TableLaws.{words_short, lines_short, work_short, no_timetable, own_tables}
use Rattle.lines_check.proofs.TableLaws.{other_tables}
use Rattle.lines_check.proofs.order_number.Goals as goal

pub returns-then-words-lt-WORDS_LEAST-clause-value : goal.returns-then-words-lt-WORDS_LEAST-clause-value
returns-then-words-lt-WORDS_LEAST-clause-value c = search words_short

pub returns-then-words-lt-WORDS_LEAST-clause-ordered : goal.returns-then-words-lt-WORDS_LEAST-clause-ordered
returns-then-words-lt-WORDS_LEAST-clause-ordered c = no_order 8 _ _ (λ e. omega arith)

pub returns-then-lines-lt-WORDS_LEAST-clause-value : goal.returns-then-lines-lt-WORDS_LEAST-clause-value
returns-then-lines-lt-WORDS_LEAST-clause-value c = search lines_short

pub returns-then-lines-lt-WORDS_LEAST-clause-ordered : goal.returns-then-lines-lt-WORDS_LEAST-clause-ordered
returns-then-lines-lt-WORDS_LEAST-clause-ordered c = no_order 8 _ _ (λ e. omega arith)

pub returns-then-work-lt-WORDS_LEAST-clause-value : goal.returns-then-work-lt-WORDS_LEAST-clause-value
returns-then-work-lt-WORDS_LEAST-clause-value c = search work_short

pub returns-then-work-lt-WORDS_LEAST-clause-ordered : goal.returns-then-work-lt-WORDS_LEAST-clause-ordered
returns-then-work-lt-WORDS_LEAST-clause-ordered c = no_order 8 _ _ (λ e. omega arith)

pub returns-then-not-is_timetable-clause-value : goal.returns-then-not-is_timetable-clause-value
returns-then-not-is_timetable-clause-value c = search no_timetable

pub returns-then-not-is_timetable-clause-ordered : goal.returns-then-not-is_timetable-clause-ordered
returns-then-not-is_timetable-clause-ordered c = no_order 9 _ _ (λ e. omega arith)

pub order_trips-requires-clause-in_bounds : goal.order_trips-requires-clause-in_bounds
order_trips-requires-clause-in_bounds c = (search rules, search asked_yes, search rules)

pub match_tables-requires : goal.match_tables-requires
match_tables-requires c = (search rules, search asked_yes, search rules, search rules, search rules, search part_long)

pub returns-then-match_tables-clause-value : goal.returns-then-match_tables-clause-value
returns-then-match_tables-clause-value c = search own_tables

pub returns-then-match_tables-clause-ordered : goal.returns-then-match_tables-clause-ordered
returns-then-match_tables-clause-ordered c = search some_order

pub returns-clause-value : goal.returns-clause-value
returns-clause-value c = search other_tables

pub returns-clause-ordered : goal.returns-clause-ordered
returns-clause-ordered c = search some_order

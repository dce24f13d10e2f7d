use borrow.Author.Rules.{rules}
use Rattle.timetable_check.proofs.CheckLaws.{number_low, number_high, number_on, numbers_done}
use Rattle.timetable_check.proofs.numbers_climb.Goals as goal

pub returns-then-number-last : goal.returns-then-number-last
returns-then-number-last c = search number_low

pub returns-then-number-gt-NUMBER_MOST : goal.returns-then-number-gt-NUMBER_MOST
returns-then-number-gt-NUMBER_MOST c = search number_high

pub loop-k-preserved : goal.loop-k-preserved
loop-k-preserved c = (search rules, search number_on)

pub returns : goal.returns
returns c = search numbers_done

-- Three ways out, each a law of `walk_before`.
use Rattle.timetable_check.proofs.TestLaws.{before_less, before_more, before_same}
use Rattle.timetable_check.proofs.walk_is_before.Goals as goal

pub returns-then-v-u : goal.returns-then-v-u
returns-then-v-u c = search before_less

pub returns-then-v-u-2 : goal.returns-then-v-u-2
returns-then-v-u-2 c = search before_more

pub returns : goal.returns
returns c = search before_same

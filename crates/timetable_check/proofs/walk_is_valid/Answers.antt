-- Eight ways out, each a law of `valid_walk`.
use Rattle.timetable_check.proofs.TestLaws.{from_below, from_above, to_below, to_above}
use Rattle.timetable_check.proofs.TestLaws.{walk_none, walk_long, walk_free, walk_cheap}
use Rattle.timetable_check.proofs.walk_is_valid.Goals as goal

pub returns-then-v-lt1 : goal.returns-then-v-lt1
returns-then-v-lt1 c = search from_below

pub returns-then-n-v : goal.returns-then-n-v
returns-then-n-v c = search from_above

pub returns-then-v-lt1-2 : goal.returns-then-v-lt1-2
returns-then-v-lt1-2 c = search to_below

pub returns-then-n-v-2 : goal.returns-then-n-v-2
returns-then-n-v-2 c = search to_above

pub returns-then-v-lt1-3 : goal.returns-then-v-lt1-3
returns-then-v-lt1-3 c = search walk_none

pub returns-then-v-gt-WALK_MINUTES_MOST : goal.returns-then-v-gt-WALK_MINUTES_MOST
returns-then-v-gt-WALK_MINUTES_MOST c = search walk_long

pub returns-then-v-lt1-4 : goal.returns-then-v-lt1-4
returns-then-v-lt1-4 c = search walk_free

pub returns : goal.returns
returns c = search walk_cheap

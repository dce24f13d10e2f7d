-- The numbers are compared one after the other; the first that differs decides.
use Rattle.query_shown.proofs.KeyLaws.{trip_first, trip_later, board_first, board_later, alight_decides}
use Rattle.query_shown.proofs.rides.numbers_before.Goals as goal

pub returns-then-g-f : goal.returns-then-g-f
returns-then-g-f c = search trip_first

pub returns-then-f-g : goal.returns-then-f-g
returns-then-f-g c = search trip_later

pub returns-then-g-f-2 : goal.returns-then-g-f-2
returns-then-g-f-2 c = search board_first

pub returns-then-f-g-2 : goal.returns-then-f-g-2
returns-then-f-g-2 c = search board_later

pub returns : goal.returns
returns c = search alight_decides

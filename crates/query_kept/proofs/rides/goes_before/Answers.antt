-- The departures and the numbers are compared one after the other; the first that differs decides.
use Rattle.query_kept.proofs.FoundLaws.{departs_later, departs_earlier, trip_first, trip_later, board_first}
use Rattle.query_kept.proofs.FoundLaws.{board_later, alight_decides}
use Rattle.query_kept.proofs.rides.goes_before.Goals as goal

pub returns-then-f-g : goal.returns-then-f-g
returns-then-f-g c = search departs_later

pub returns-then-g-f : goal.returns-then-g-f
returns-then-g-f c = search departs_earlier

pub returns-then-g-f-2 : goal.returns-then-g-f-2
returns-then-g-f-2 c = search trip_first

pub returns-then-f-g-2 : goal.returns-then-f-g-2
returns-then-f-g-2 c = search trip_later

pub returns-then-g-f-3 : goal.returns-then-g-f-3
returns-then-g-f-3 c = search board_first

pub returns-then-f-g-3 : goal.returns-then-f-g-3
returns-then-f-g-3 c = search board_later

pub returns : goal.returns
returns c = search alight_decides

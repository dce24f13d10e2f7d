use Rattle.query_winner.specs.Keys.{leaves_later, leaves_earlier, fewer_rides, more_rides, by_words}
use Rattle.query_winner.proofs.goes_before.Goals as goal

pub returns-then-f-g : goal.returns-then-f-g
returns-then-f-g c = search leaves_later

pub returns-then-g-f : goal.returns-then-g-f
returns-then-g-f c = search leaves_earlier

pub returns-then-g-f-2 : goal.returns-then-g-f-2
returns-then-g-f-2 c = search fewer_rides

pub returns-then-f-g-2 : goal.returns-then-f-g-2
returns-then-f-g-2 c = search more_rides

pub returns : goal.returns
returns c = search by_words

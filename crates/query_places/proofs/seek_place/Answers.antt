use borrow.Author.Rules.{rules}
use Rattle.query_places.proofs.ReachLaws.{place_none, place_other, place_closed, place_found}
use Rattle.query_places.proofs.seek_place.Goals as goal

pub returns-then-d-g : goal.returns-then-d-g
returns-then-d-g c = (search place_other, search rules)

pub returns-then-may_ride : goal.returns-then-may_ride
returns-then-may_ride c = (search place_found, search rules)

pub loop-k-preserved : goal.loop-k-preserved
loop-k-preserved c = (search rules, search place_closed)

pub returns : goal.returns
returns c = (search place_none, search rules)

use Rattle.std.proofs.Common.{◌≡◌, ◌≤◌, ◌∙◌, arith, rules}
use Rattle.timetable.specs.Access.{stations_few, trips_few, stops_few}
use Rattle.timetable.proofs.WalkToLaws.{station_few, before_few, begins_before, walk_few}
use Rattle.timetable.proofs.WalkToLaws.{seek_begins, seek_none, seek_here, seek_on}
use Rattle.timetable.proofs.walk_to.Goals as goal

pub walks_to-end-requires : goal.walks_to-end-requires
walks_to-end-requires c = (search rules, search stations_few, search trips_few, search stops_few, search station_few)

pub walks_to-k-requires : goal.walks_to-k-requires
walks_to-k-requires c = (search rules, search stations_few, search trips_few, search stops_few, search before_few)

pub loop-k-init : goal.loop-k-init
loop-k-init c = search seek_begins

pub walk_at-requires : goal.walk_at-requires
walk_at-requires c = (search rules, search stations_few, search trips_few, search stops_few, search walk_few)

pub loop-k-preserved : goal.loop-k-preserved
loop-k-preserved c = let so_far = c.loop-k.invariant in
    seek_on _ _ _ _ _ so_far _ c.loop-k-test.true c.walk_at.ensures c.if-walk_at-x.false

pub returns-then-walk_at-x : goal.returns-then-walk_at-x
returns-then-walk_at-x c = let so_far = c.loop-k.invariant in
    seek_here _ _ _ _ _ so_far _ c.loop-k-test.true c.walk_at.ensures c.if-walk_at-x.true

pub returns : goal.returns
returns c =
    let rises : c.walks_to-k.result ≤ c.walks_to-end.result = search begins_before in
    let over : c.walks_to-end.result ≡ c.loop-k.k = omega arith in
    over ∙ seek_none _ _ _ _ _ c.loop-k.invariant (omega arith)

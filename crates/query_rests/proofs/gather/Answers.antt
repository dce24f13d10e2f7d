use borrow.Author.Rules.{rules}
use Rattle.query_rides.specs.Riding.{near_falls, good_some, good_told}
use Rattle.query_rests.proofs.GatherLaws.{gather_begins, gather_more, gather_done}
use Rattle.query_rests.proofs.gather.Goals as goal

pub loop-next-init : goal.loop-next-init
loop-next-init c = (search rules, search rules, search gather_begins)

pub tell-ride-requires : goal.tell-ride-requires
tell-ride-requires c = search good_told

pub next_nearest-next-requires : goal.next_nearest-next-requires
next_nearest-next-requires c = search good_some

pub loop-next-smaller : goal.loop-next-smaller
loop-next-smaller c = search near_falls

pub loop-next-preserved : goal.loop-next-preserved
loop-next-preserved c = (search rules, search rules, search gather_more)

pub returns-clause-z_after : goal.returns-clause-z_after
returns-clause-z_after c = search gather_done

use Rattle.query_minutes.proofs.EndLaws.{floor_none, floor_more, floor_all}
use Rattle.query_minutes.proofs.least_of.Goals as goal

pub loop-m-init : goal.loop-m-init
loop-m-init c = search floor_none

pub loop-m-preserved : goal.loop-m-preserved
loop-m-preserved c = search floor_more

pub returns : goal.returns
returns c = search floor_all

use Rattle.query_layers.proofs.LayerLaws.{room_one}
use Rattle.query_layers.proofs.reach.Goals as goal

pub loop-high-init : goal.loop-high-init
loop-high-init c = search room_one

-- The word of the root.
use Rattle.store_tree.specs.Growth.{planted}
use Rattle.store_tree.proofs.plant_root.Goals as goal

pub returns : goal.returns
returns c = λ words ps targets spelled near long. search planted

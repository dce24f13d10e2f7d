-- The first digit of a word.
use mathlib.Core.Path.{refl}
use native.Mathlib.Omega.{arith}
use Rattle.store_tree.specs.Tree.{slot_in}
use Rattle.store_tree.proofs.node_slot.Goals as goal

pub returns : goal.returns
unfolding slot_in
returns c = (refl, omega arith)

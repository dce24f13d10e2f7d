-- The second digit of a word.
use mathlib.Core.Path.{refl}
use native.Mathlib.Omega.{arith}
use Rattle.store_tree.specs.Tree.{parent_in}
use Rattle.store_tree.proofs.node_parent.Goals as goal

pub returns : goal.returns
unfolding parent_in
returns c = (refl, omega arith)

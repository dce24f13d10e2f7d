-- The third digit of a word.
use mathlib.Core.Path.{refl}
use native.Mathlib.Omega.{arith}
use Rattle.store_tree.specs.Tree.{arcs_in}
use Rattle.store_tree.proofs.node_arcs.Goals as goal

pub returns : goal.returns
unfolding arcs_in
returns c = (refl, omega arith)

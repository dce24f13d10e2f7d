-- A word with no arcs.
use native.Mathlib.Omega.{arith}
use Rattle.store_tree.specs.Tree.{node_word}
use Rattle.store_tree.proofs.node_word.Goals as goal

pub returns : goal.returns
unfolding node_word
returns c = omega arith

-- The labels of the node, and the marks that they tell.
use Rattle.store_nodes.specs.Hope.{marked_idle, marked_on}
use borrow.Author.Rules.{rules}
use Rattle.store_nodes.proofs.families.mark_kid.Goals as goal

pub returns-then-node-ge-LATE : goal.returns-then-node-ge-LATE
returns-then-node-ge-LATE c = (search marked_on, search rules, search rules, search rules, search rules)

pub returns-then-not-mark_labelled : goal.returns-then-not-mark_labelled
returns-then-not-mark_labelled c = (search marked_idle, search rules, search rules, search rules, search rules)

pub returns : goal.returns
returns c = (search marked_on, search rules, search rules, search rules, search rules)

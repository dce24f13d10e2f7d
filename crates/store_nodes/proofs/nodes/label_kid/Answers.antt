-- One change more, and whose labels these are.
use borrow.Author.Rules.{rules}
use Rattle.store_nodes.specs.Hand.{station_place, slot_onward, labelled_kid}
use Rattle.store_nodes.proofs.nodes.label_kid.Goals as goal

pub label_step-e-requires-clause-c_bound : goal.label_step-e-requires-clause-c_bound
label_step-e-requires-clause-c_bound c = (search rules, search slot_onward)

pub note-requires : goal.note-requires
note-requires c = (search station_place, search rules, search rules)

pub returns : goal.returns
returns c = (search labelled_kid, search rules, search rules, search rules)

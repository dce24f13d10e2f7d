-- The stations of the change are those that the slot stands for.
use borrow.Author.Rules.{rules}
use Rattle.store_marks.proofs.WholeLaws.{slot_room, slot_leads, slot_boards, slot_stepped}
use Rattle.store_marks.proofs.label_step.Goals as goal

pub transfer_at-t-requires : goal.transfer_at-t-requires
transfer_at-t-requires c = (search rules, search rules, search slot_room)

pub step_between-requires-clause-leads : goal.step_between-requires-clause-leads
step_between-requires-clause-leads c = (search slot_leads, search rules)

pub returns-clause-stepped : goal.returns-clause-stepped
returns-clause-stepped c = search slot_stepped

pub returns-clause-upper_bound : goal.returns-clause-upper_bound
returns-clause-upper_bound c = (search slot_boards, search rules)

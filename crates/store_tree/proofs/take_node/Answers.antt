-- Counted first, what does not fit is not written; then the node is taken by the laws of Growth.
use borrow.Author.Rules.{rules}
use Rattle.store_tree.proofs.TakeLaws.{young_many, ends_many, list_few, list_near, sum_fits, all_taken}
use Rattle.store_tree.proofs.take_node.Goals as goal

pub slot_count-young-requires : goal.slot_count-young-requires
slot_count-young-requires c = (search rules, (λ j h. search list_near), search list_few)

pub returns-then-n-young-gt-ENTRIES_MOST : goal.returns-then-n-young-gt-ENTRIES_MOST
returns-then-n-young-gt-ENTRIES_MOST c = λ words ps source all x. search young_many

pub returns-then-m-ends-gt-ENTRIES_MOST : goal.returns-then-m-ends-gt-ENTRIES_MOST
returns-then-m-ends-gt-ENTRIES_MOST c = λ words ps source all x. search ends_many

pub put_kids-requires : goal.put_kids-requires
put_kids-requires c = (search rules, (λ j h. search list_near), search rules, search rules)

pub overflow_add-work : goal.overflow_add-work
overflow_add-work c = record { fits = search sum_fits }

pub returns : goal.returns
returns c = λ words ps source all x. search all_taken

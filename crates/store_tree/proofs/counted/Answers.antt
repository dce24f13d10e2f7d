-- One flag counts one or none.
use Rattle.store_tree.proofs.MarkLaws.{counted_yes, counted_no}
use borrow.Author.Rules.{rules}
use Rattle.store_tree.proofs.counted.Goals as goal

pub returns-then-flag-eq1 : goal.returns-then-flag-eq1
returns-then-flag-eq1 c = (search counted_yes, search rules)

pub returns : goal.returns
returns c = (search counted_no, search rules)

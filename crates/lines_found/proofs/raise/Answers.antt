use borrow.Author.Rules.{rules}
use Rattle.lines_found.proofs.RaiseLaws.{lifted_none, lift_fits, lifted_more, lifted_all}
use Rattle.lines_found.proofs.raise.Goals as goal

pub loop-word-init : goal.loop-word-init
loop-word-init c = (search rules, search lifted_none)

pub overflow_add-word : goal.overflow_add-word
overflow_add-word c = record { fits = search lift_fits }

pub loop-word-preserved : goal.loop-word-preserved
loop-word-preserved c = (search rules, search lifted_more)

pub returns-clause-list_after : goal.returns-clause-list_after
returns-clause-list_after c = search lifted_all

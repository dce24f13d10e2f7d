-- Three ways out: the stop is closed; free at the start; else the lesser of the two.
use mathlib.Core.Path.{sym, ◌∙◌}
use borrow.Author.Tests.{not-true, not-false}
use Rattle.store_penalties.specs.Boarding.{boards_closed, boards_free, boards_least}
use Rattle.store_penalties.proofs.boarding.Goals as goal

pub returns-then-not-opens : goal.returns-then-not-opens
returns-then-not-opens c = sym (search (boards_closed, not-true))

pub returns-then-c-source : goal.returns-then-c-source
returns-then-c-source c = sym (search (boards_free, not-false))

pub returns : goal.returns
returns c = c.lesser.ensures ∙ sym (search (boards_least, not-false))

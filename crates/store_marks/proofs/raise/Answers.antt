-- The flag goes up exactly if the test passes.
use Rattle.query_minutes.specs.Compared.{less_yes, less_no}
use Rattle.store_marks.proofs.WordLaws.{raised_up, raised_not}
use Rattle.store_marks.proofs.raise.Goals as goal

pub returns-then-less-clause-flags_after : goal.returns-then-less-clause-flags_after
returns-then-less-clause-flags_after c = search (raised_up, less_yes)

pub returns-else-less-clause-flags_after : goal.returns-else-less-clause-flags_after
returns-else-less-clause-flags_after c = search (raised_not, less_no)

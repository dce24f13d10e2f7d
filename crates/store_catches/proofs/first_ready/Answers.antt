-- None of the stops before the place is ready, so the first that is ready is the one there.
use Rattle.store_catches.proofs.CatchLaws.{none_ready, is_ready, ready_short}
use borrow.Author.Rules.{rules}
use Rattle.store_catches.proofs.first_ready.Goals as goal

pub returns-then-end-place : goal.returns-then-end-place
returns-then-end-place c = (search none_ready, search rules)

pub returns : goal.returns
returns c = (search is_ready, search ready_short)

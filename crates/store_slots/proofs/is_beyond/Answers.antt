-- One test or the other.
use Rattle.store_slots.proofs.ListLaws.{is_above, is_below}
use Rattle.store_slots.proofs.is_beyond.Goals as goal

pub returns-then-above : goal.returns-then-above
returns-then-above c = search is_above

pub returns : goal.returns
returns c = search is_below

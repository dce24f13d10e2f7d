-- The mark decides.
use Rattle.lines_lookup.proofs.LookupLaws.{boards_is}
use Rattle.lines_lookup.proofs.may_board.Goals as goal

pub returns : goal.returns
returns c = search boards_is

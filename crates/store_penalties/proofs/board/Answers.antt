-- The words that are read are the points that are lowered and compared.
use Rattle.store_penalties.proofs.ArriveLaws.{waits, boards}
use Rattle.store_penalties.proofs.board.Goals as goal

pub returns-clause-low_after : goal.returns-clause-low_after
returns-clause-low_after c = search waits

pub returns-clause-result_value : goal.returns-clause-result_value
returns-clause-result_value c = search boards

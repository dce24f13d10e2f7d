-- A word inside the slice; past its end no minute is in time.
use Rattle.query_rests.proofs.RestLaws.{read_here, read_past}
use Rattle.query_rests.proofs.rest_at.Goals as goal

pub returns-then-m-z : goal.returns-then-m-z
returns-then-m-z c = search read_here

pub returns : goal.returns
returns c = search read_past

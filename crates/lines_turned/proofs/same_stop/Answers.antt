-- Two words are compared.
use Rattle.lines_turned.proofs.SameLaws.{arrival_differs, departure_decides}
use Rattle.lines_turned.proofs.same_stop.Goals as goal

pub returns-then-long_at-word : goal.returns-then-long_at-word
returns-then-long_at-word c = search arrival_differs

pub returns : goal.returns
returns c = search departure_decides

-- Whether the line ends its trip chooses between the two cases of `advance`.
use Rattle.reading.proofs.after_stop.Goals as goal

pub returns-then-l : goal.returns-then-l
returns-then-l c = rw c.if-l.true

pub returns : goal.returns
returns c = rw c.if-l.false

-- Less, more or the same.
use Rattle.query_arcs.specs.Merged.{sole_less, sole_more, sole_same}
use Rattle.query_arcs.proofs.sole_arc.Goals as goal

pub returns-then-less : goal.returns-then-less
returns-then-less c = search sole_less

pub returns-then-less-2 : goal.returns-then-less-2
returns-then-less-2 c = search sole_more

pub returns : goal.returns
returns c = search sole_same

-- A trip either founds the next line or joins one that ends among the trips so far.
use borrow.Author.Rules.{rules}
use Rattle.lines_found.proofs.JoinLaws.{founds, joins_line, end_inside}
use Rattle.lines_found.proofs.RaiseLaws.{below_part, raised_part}
use Rattle.lines_found.proofs.join.Goals as goal

pub returns-then-line-lines-clause-joined : goal.returns-then-line-lines-clause-joined
returns-then-line-lines-clause-joined c = search founds

pub insert-requires : goal.insert-requires
insert-requires c = (search end_inside, search rules)

pub raise-requires : goal.raise-requires
raise-requires c = search below_part

pub returns-clause-joined : goal.returns-clause-joined
returns-clause-joined c = search (joins_line, raised_part)

-- Two ways out: there is a next place, or there is none.
use borrow.Author.Rules.{rules}
use Rattle.lines_alone.proofs.DrawLaws.{onward_some, onward_none, onward_small}
use Rattle.lines_alone.proofs.points_onward.Goals as goal

pub returns-then-more : goal.returns-then-more
returns-then-more c = (search onward_some, search onward_small)

pub returns : goal.returns
returns c = (search onward_none, search rules)

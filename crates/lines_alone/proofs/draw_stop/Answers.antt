-- Five words, four of them looked up.
use borrow.Author.Rules.{rules}
use Rattle.words.specs.Below.{below_none, below_more}
use Rattle.lines_alone.proofs.DrawLaws.{stop_drawn}
use Rattle.lines_alone.proofs.draw_stop.Goals as goal

pub narrow-requires : goal.narrow-requires
narrow-requires c = (search rules, search (rules, below_none, below_more))

pub returns-clause-body_after : goal.returns-clause-body_after
returns-clause-body_after c = search stop_drawn

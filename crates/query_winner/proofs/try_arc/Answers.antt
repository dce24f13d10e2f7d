-- Either the winner stays as it is, or what was found along the arc takes its place in the array.
use Rattle.query_winner.specs.Trying.{tried_keep, tried_turn}
use borrow.Author.Rules.{rules}
use Rattle.query_winner.proofs.try_arc.Goals as goal

pub returns-then-not-wins-clause-tried : goal.returns-then-not-wins-clause-tried
returns-then-not-wins-clause-tried c = (
  search (
    tried_keep,
    c.requires.6,
    c.requires.3,
    c.find_arc-f.ensures.arc_tried.0,
    c.wins.ensures,
  ),
  search rules,
)

pub returns-clause-tried : goal.returns-clause-tried
returns-clause-tried c = (search tried_turn, search rules)

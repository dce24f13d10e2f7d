-- Either no arc was named and all are tried, or the one named has the connection shown.
use Rattle.query_winner.specs.Leader.{named_leader, leader_few}
use borrow.Author.Rules.{rules}
use Rattle.query_winner.proofs.leading_arc.Goals as goal

pub returns-then-named-eq0-clause-leader : goal.returns-then-named-eq0-clause-leader
returns-then-named-eq0-clause-leader c = (search rules, search leader_few)

pub returns-clause-leader : goal.returns-clause-leader
returns-clause-leader c = (search named_leader, search rules)

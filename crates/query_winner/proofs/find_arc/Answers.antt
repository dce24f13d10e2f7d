-- The pattern of the arc is read, and what is found along it is told.
use Rattle.query_arcs.specs.Arcs.{store_made}
use Rattle.query_winner.specs.Found.{path_given, found_arc, found_sized}
use borrow.Author.Rules.{rules}
use Rattle.query_winner.proofs.find_arc.Goals as goal

pub read_arc-r-requires : goal.read_arc-r-requires
read_arc-r-requires c = (search store_made, search rules, search rules)

pub first_of_pattern-f-requires : goal.first_of_pattern-f-requires
first_of_pattern-f-requires c = (
  search path_given,
  search rules,
  search rules,
  search rules,
  search rules,
  search
      rules,
)

pub returns-clause-arc_tried : goal.returns-clause-arc_tried
returns-clause-arc_tried c = (search found_arc, search found_sized)

-- The arc is found, and the length of the row follows from its sequence.
use Rattle.query_arcs.specs.Arcs.{store_made}
use Rattle.query_winner.specs.Leader.{named_read}
use Rattle.query_rows.specs.Named.{leader_named}
use borrow.Author.Rules.{rules}
use Rattle.query_rows.proofs.name_arc.Goals as goal

pub leading_arc-arc-requires : goal.leading_arc-arc-requires
leading_arc-arc-requires c = (search rules, search rules, search named_read, search rules, search rules, search rules)

pub row_length-requires : goal.row_length-requires
row_length-requires c = (search store_made, search rules)

pub returns-clause-named_row : goal.returns-clause-named_row
returns-clause-named_row c = (search leader_named, search rules)

-- The row is that of what is found along the arc named.
use Rattle.query_winner.specs.Leader.{leader_read}
use Rattle.query_rows.proofs.RowLaws.{row_room, row_written}
use borrow.Author.Rules.{rules}
use Rattle.query_rows.proofs.write_row.Goals as goal

pub find_shown-x-requires : goal.find_shown-x-requires
find_shown-x-requires c = (search rules, search rules, search leader_read, search rules, search rules, search rules)

pub put_row-requires : goal.put_row-requires
put_row-requires c = (search rules, search rules, search row_room)

pub returns-clause-written : goal.returns-clause-written
returns-clause-written c = search row_written

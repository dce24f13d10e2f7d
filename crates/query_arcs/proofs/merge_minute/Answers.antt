-- Each of the three words is stored as the callees tell it.
use Rattle.query_arcs.proofs.MergeLaws.{least_stored, sole_stored}
use borrow.Author.Rules.{rules}
use Rattle.query_arcs.proofs.merge_minute.Goals as goal

pub returns : goal.returns
returns c = (search rules, search least_stored, search sole_stored)

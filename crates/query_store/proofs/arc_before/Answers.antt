-- The words of the arcs stand behind those of the nodes, the predecessor second.
use borrow.Author.Rules.{rules}
use Rattle.query_store.proofs.EntryLaws.{before_read}
use Rattle.query_store.proofs.arc_before.Goals as goal

pub returns : goal.returns
returns c = (search before_read, search rules)

-- The words of the arcs stand behind those of the nodes.
use borrow.Author.Rules.{rules}
use Rattle.query_store.proofs.EntryLaws.{target_read}
use Rattle.query_store.proofs.arc_target.Goals as goal

pub returns : goal.returns
returns c = (search target_read, search rules)

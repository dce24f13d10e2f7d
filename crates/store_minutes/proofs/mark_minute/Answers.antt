-- What is allowed at the minute decides the marks.
use borrow.Author.Rules.{rules}
use Rattle.store_minutes.specs.Prepared.{long_enough_lem, accepted, changes}
use Rattle.store_minutes.proofs.mark_minute.Goals as goal

pub mark_nodes-requires : goal.mark_nodes-requires
mark_nodes-requires c = (
  search long_enough_lem,
  search accepted,
  search rules,
  search changes,
  search rules,
  search rules,
  search rules,
  search rules,
  search rules,
  search rules,
  search rules,
  search rules,
  search rules,
  search rules,
)

-- No flag is up before the first departure.
use Rattle.store_minutes.specs.Seeking.{sought_none}
use Rattle.store_minutes.specs.Looking.{chunk_inside}
use borrow.Author.Rules.{rules}
use Rattle.store_minutes.proofs.mark_chunk.Goals as goal

pub least_parent-requires : goal.least_parent-requires
least_parent-requires c = (search rules, search chunk_inside)

pub mark_departures-requires : goal.mark_departures-requires
mark_departures-requires c = (
  search rules,
  search rules,
  search rules,
  search rules,
  search rules,
  search rules,
  search rules,
  search rules,
  search rules,
  search rules,
  search rules,
  search rules,
  search rules,
  search rules,
  search sought_none,
  search rules,
)

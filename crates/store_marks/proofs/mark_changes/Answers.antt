-- First the change at the station itself, then the walks, if there are any at all.
use borrow.Author.Rules.{rules}
use Rattle.store_departures.specs.Held.{held_first, held_prices}
use Rattle.store_marks.proofs.ArrivalLaws.{kids_tried, kids_stay}
use Rattle.store_marks.proofs.mark_changes.Goals as goal

pub mark_own-requires-clause-words_value : goal.mark_own-requires-clause-words_value
mark_own-requires-clause-words_value c = (
  search rules,
  search held_first,
  search held_prices,
  search rules,
  search
      rules,
  search rules,
)

pub has_walks-requires : goal.has_walks-requires
has_walks-requires c = search held_first

pub returns-then-has_walks-clause-kids_after : goal.returns-then-has_walks-clause-kids_after
returns-then-has_walks-clause-kids_after c = search kids_tried

pub returns-else-has_walks-clause-kids_after : goal.returns-else-has_walks-clause-kids_after
returns-else-has_walks-clause-kids_after c = search kids_stay

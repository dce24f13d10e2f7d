-- Nothing is noted in new arrays; and nobody arrives before the query.
use borrow.Author.Rules.{rules}
use Rattle.query_rests.specs.Spans.{spans_blank}
use Rattle.query_shown.proofs.WayLaws.{none_late}
use Rattle.query_shown.proofs.first_of_pattern.Goals as goal

pub returns-then-sought-clause-found_at : goal.returns-then-sought-clause-found_at
returns-then-sought-clause-found_at c = search none_late

pub first_in_time-requires : goal.first_in_time-requires
first_in_time-requires c = (
  search rules,
  search rules,
  search rules,
  search rules,
  search rules,
  search rules,
  search rules,
  search spans_blank,
  search spans_blank,
)

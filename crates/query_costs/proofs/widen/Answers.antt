-- A minute of the two days widens the span, any other leaves it.
use Rattle.query_costs.specs.Spans.{widened_late, widened_more}
use Rattle.query_costs.proofs.widen.Goals as goal

pub returns-then-m-ge-MINUTES : goal.returns-then-m-ge-MINUTES
returns-then-m-ge-MINUTES c = search widened_late

pub returns : goal.returns
returns c = search widened_more

-- Both counts, those that run included.
use Rattle.reading_lines.proofs.ExtraLaws.{trips_full, stops_decide}
use Rattle.reading_lines.proofs.extra_counted.Goals as goal

pub returns-then-rules-p-ge-TRIPS_MOST : goal.returns-then-rules-p-ge-TRIPS_MOST
returns-then-rules-p-ge-TRIPS_MOST c = search trips_full

pub returns : goal.returns
returns c = search stops_decide

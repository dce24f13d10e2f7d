-- A ride that arrives too late, or has not the least penalty of its minute, changes nothing.
use Rattle.query_kept.proofs.KeepLaws.{too_late, too_dear, kept_on_lem}
use Rattle.query_kept.proofs.rides.keep_trip.Goals as goal

pub returns-then-minute-ge-MINUTES-clause-kept_after : goal.returns-then-minute-ge-MINUTES-clause-kept_after
returns-then-minute-ge-MINUTES-clause-kept_after c = search too_late

pub returns-then-same-clause-kept_after : goal.returns-then-same-clause-kept_after
returns-then-same-clause-kept_after c = search kept_on_lem

pub returns-else-same-clause-kept_after : goal.returns-else-same-clause-kept_after
returns-else-same-clause-kept_after c = search too_dear

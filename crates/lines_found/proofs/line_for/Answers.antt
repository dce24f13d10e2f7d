use Prim.Native.Nat.{◌-◌}
use borrow.Author.Rules.{rules}
use Rattle.lines_found.proofs.WalkLaws.{none_early, walk_starts, none_left, walk_stays, walk_there}
use Rattle.lines_found.proofs.WalkLaws.{walk_listed_lem, found_here, walk_less, walk_on}
use Rattle.lines_found.proofs.line_for.Goals as goal

pub returns-then-seen-chains-clause-value : goal.returns-then-seen-chains-clause-value
returns-then-seen-chains-clause-value c = search none_early

pub loop-line-init : goal.loop-line-init
loop-line-init c = (search rules, search walk_starts)

pub returns-then-line-ge-NO_LINE-clause-value : goal.returns-then-line-ge-NO_LINE-clause-value
returns-then-line-ge-NO_LINE-clause-value c = search none_left

pub fits-requires-clause-line_in_bounds : goal.fits-requires-clause-line_in_bounds
fits-requires-clause-line_in_bounds c = (search walk_there, search walk_listed_lem)

pub returns-then-fits-clause-value : goal.returns-then-fits-clause-value
returns-then-fits-clause-value c = search found_here

pub returns-then-fits-clause-upper_bound : goal.returns-then-fits-clause-upper_bound
returns-then-fits-clause-upper_bound c = search walk_stays

pub loop-line-smaller : goal.loop-line-smaller
loop-line-smaller c = search walk_less

pub loop-line-preserved : goal.loop-line-preserved
loop-line-preserved c = (search rules, search walk_on)

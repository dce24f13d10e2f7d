-- A mark is 0, or tells line and place.
use native.Mathlib.Omega.{arith}
use borrow.Author.Rules.{rules}
use Rattle.lines_alone.proofs.HomeLaws.{nowhere, line_small, place_small, home_told}
use Rattle.lines_alone.proofs.home_of.Goals as goal

pub overflow_cast-mark : goal.overflow_cast-mark
overflow_cast-mark c = omega (arith, c.shared_slice_known-3-1.given c.args.number)

pub returns-then-mark-eq0-clause-value : goal.returns-then-mark-eq0-clause-value
returns-then-mark-eq0-clause-value c = search nowhere

pub line_at-line-requires : goal.line_at-line-requires
line_at-line-requires c = search line_small

pub returns-clause-value : goal.returns-clause-value
returns-clause-value c = search home_told

pub returns-clause-at_bound : goal.returns-clause-at_bound
returns-clause-at_bound c = (search rules, search rules, search rules, search place_small)

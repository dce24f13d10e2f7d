use native.Mathlib.Nat.{sub-zero}
use borrow.Author.Rules.{rules}
use Rattle.lines_lookup.proofs.FirstLaws.{none_left, found, goes_on}
use Rattle.lines_lookup.proofs.first_trip.Goals as goal

pub loop-j-init : goal.loop-j-init
loop-j-init c = rw sub-zero

pub loop-j-preserved : goal.loop-j-preserved
loop-j-preserved c = search goes_on

pub returns-then-minute-depart_at : goal.returns-then-minute-depart_at
returns-then-minute-depart_at c = (search found, search rules)

pub returns : goal.returns
returns c = (search none_left, search rules)

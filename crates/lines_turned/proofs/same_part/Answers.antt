use Prim.Native.Nat.{◌-◌}
use Rattle.lines_turned.proofs.SameLaws.{part_differs, part_agrees, part_same}
use borrow.Author.Rules.{rules}
use Rattle.lines_turned.proofs.same_part.Goals as goal

pub returns-then-work-k : goal.returns-then-work-k
returns-then-work-k c = search part_differs

pub loop-k-preserved : goal.loop-k-preserved
loop-k-preserved c = (search rules, search rules, search part_agrees)

pub returns : goal.returns
returns c = search part_same

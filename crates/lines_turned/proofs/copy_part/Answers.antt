use Prim.Native.Nat.{◌-◌}
use Rattle.lines_turned.proofs.WriteLaws.{part_more, part_done}
use borrow.Author.Rules.{rules}
use Rattle.lines_turned.proofs.copy_part.Goals as goal

pub loop-k-preserved : goal.loop-k-preserved
loop-k-preserved c = (search rules, search rules, search rules, search part_more)

pub returns-clause-out_after : goal.returns-clause-out_after
returns-clause-out_after c = search part_done

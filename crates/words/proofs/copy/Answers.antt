use Rattle.std.proofs.Common.{sym, arith}
use Rattle.words.proofs.CopyLaws.{nothing_put, copy_another}
use Rattle.words.proofs.copy.Goals as goal

pub loop-i-init : goal.loop-i-init
loop-i-init g c = sym (nothing_put _ _)

pub loop-i-preserved : goal.loop-i-preserved
loop-i-preserved g c =
    copy_another c.args.at c.loop-i.i _ _ _ _ c.loop-i.invariant (omega arith) c.requires c.index-src-i.is

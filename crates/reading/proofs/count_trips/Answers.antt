use mathlib.Core.Path.{sym}
use Prim.Native.Nat.{◌-◌}
use borrow.Author.Rules.{rules}
use Rattle.words.specs.Put.{put_none}
use Rattle.reading.proofs.CountLaws.{count_more, count_done}
use Rattle.reading.proofs.count_trips.Goals as goal

pub loop-k-init : goal.loop-k-init
loop-k-init c = (search rules, search rules, sym (put_none _ _))

pub loop-k-preserved : goal.loop-k-preserved
loop-k-preserved c = (search rules, search rules, search count_more)

pub returns : goal.returns
returns c = search count_done

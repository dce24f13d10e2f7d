-- The loop keeps a draft: the arrays hold its words, and the lines left, read on from it, give what the whole text
-- gives. So every way out answers for the whole text.
use Prim.Native.Nat.{◌-◌}
use borrow.Author.Rules.{rules}
use lib.ListN.{length}
use Rattle.reading.proofs.LoopLaws.{Kept}
use Rattle.reading.proofs.read_lines.Given as goal

abbrev pub invariant-loop-rules : goal.invariant-loop-rules
invariant-loop-rules l = Kept l.rules l.stations l.text l.initial.body l.initial.starts l.initial.walking l.body
    l.starts l.walking l.p l.line l.from

abbrev pub decreases-loop-rules : goal.decreases-loop-rules
decreases-loop-rules l = length l.text - l.from

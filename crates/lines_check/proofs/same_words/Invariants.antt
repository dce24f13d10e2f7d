-- So many of the words before index i differ.
use Prim.Native.Nat.{◌≤◌}
use Rattle.lines_check.proofs.SameLaws.{Counted}
use Rattle.lines_check.proofs.same_words.Given as goal

abbrev pub invariant-loop-i : goal.invariant-loop-i
invariant-loop-i l = (l.i ≤ l.count) × (l.others ≤ l.i) × Counted l.work l.lines l.count l.i l.others

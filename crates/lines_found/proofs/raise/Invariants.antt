-- The words before the index are raised.
use mathlib.Core.Path.{◌≡◌}
use lib.ListN.{length}
use Rattle.lines_found.proofs.RaiseLaws.{lifted}
use Rattle.lines_found.proofs.raise.Given as goal

abbrev pub invariant-loop-word : goal.invariant-loop-word
invariant-loop-word l = (length l.list ≡ length l.initial.list) × (l.list ≡ lifted l.word-index l.initial.list)

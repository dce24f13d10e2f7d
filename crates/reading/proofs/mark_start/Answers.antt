-- Trips and stops are below their limits, so that the place is in the array and the count fits a word.
use Rattle.reading.proofs.mark_start.Goals as goal

pub returns-then-last : goal.returns-then-last
returns-then-last c = rw c.if-last.true

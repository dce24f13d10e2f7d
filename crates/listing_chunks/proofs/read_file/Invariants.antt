-- What is unread lies within the chunk, and what is kept within the text.
use Rattle.std.proofs.Common.{length, ◌-◌, ◌≤◌}
use Rattle.listing_chunks.proofs.read_file.Given as goal

abbrev pub invariant-loop-len : goal.invariant-loop-len
invariant-loop-len g l = (l.len ≤ length l.text) × (l.unread.at ≤ l.unread.end) × (l.unread.end ≤ length l.chunk)

abbrev pub decreases-loop-len : goal.decreases-loop-len
decreases-loop-len g l = length l.initial.text - l.len

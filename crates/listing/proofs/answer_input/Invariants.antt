-- The store is that of the source which was made last; what is unread lies within the chunk, and every array keeps its
-- length.
use Rattle.std.proofs.Common.{◌≡◌, ◌≤◌, length}
use Rattle.listing_output.specs.Printed.{made_number, store_slice}
use Rattle.listing.proofs.answer_input.Given as goal

abbrev pub invariant-loop : goal.invariant-loop
invariant-loop g l = (length l.work ≡ 16384)
    × (length l.out ≡ 196654)
    × (length l.store ≡ 32768)
    × (length l.chunk ≡ 4096)
    × (length l.line ≡ 17)
    × (l.unread.at ≤ l.unread.end)
    × (l.unread.end ≤ length l.chunk)
    × (l.kept ≤ 17)
    × (l.made.number ≡ made_number l.timetable l.lines l.made.source)
    × (l.store ≡ store_slice l.timetable l.lines l.made.source)

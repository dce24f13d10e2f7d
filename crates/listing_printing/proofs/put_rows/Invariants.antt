-- What is left of the answer's words, as lines, put behind what was written, is the whole.
use Rattle.std.proofs.Common.{◌≡◌, ◌+◌, ◌*◌, ◌≤◌, length}
use Rattle.std.specs.Slice.Iter.{chunks_exact_rest, chunks_exact_size}
use Rattle.words.specs.Put.{put}
use Rattle.listing_printing.specs.Lines.{lines_from}
use Rattle.listing_printing.proofs.put_rows.Given as goal

abbrev pub invariant-loop-words : goal.invariant-loop-words
invariant-loop-words l =
    let rest = chunks_exact_rest l.words-iterator in
    (chunks_exact_size l.words-iterator ≡ 3)
    × (length l.out ≡ length l.initial.out)
    × (l.at + 12 * length rest ≤ length l.out)
    × (l.at + length (lines_from rest l.left l.rides) ≡ l.start + length (lines_from l.answer l.rows 0))
    × (put l.at (lines_from rest l.left l.rides) l.out ≡ put l.start (lines_from l.answer l.rows 0) l.initial.out)

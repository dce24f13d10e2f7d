-- What is left of the numbers, put behind what was written, is the whole line.
use mathlib.Core.Path.{◌≡◌}
use Prim.Native.Nat.{◌≤◌, ◌+◌, ◌*◌}
use lib.ListN.{length, drop}
use Rattle.words.specs.Put.{put}
use Rattle.listing_printing.specs.Lines.{fields}
use Rattle.listing_printing.proofs.put_line.Given as goal

abbrev pub invariant-loop-n : goal.invariant-loop-n
invariant-loop-n l = (l.at ≤ l.start + 1 + 11 * l.n-index)
    × ((length l.out ≡ length l.initial.out)
    × ((l.at + length (fields (drop l.n-index l.numbers)) ≡ l.start + 1 + length (fields l.numbers))
    × (put l.at (fields (drop l.n-index l.numbers)) l.out ≡ put (l.start + 1) (fields l.numbers) l.initial.out)))

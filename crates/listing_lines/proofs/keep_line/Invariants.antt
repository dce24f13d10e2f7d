-- The bytes kept so far and those not yet looked at print what all of them do.
use mathlib.Core.Path.{◌≡◌}
use Prim.Native.Nat.{◌≤◌, ◌-◌}
use lib.ListN.{length, take, drop}
use Rattle.listing_output.specs.Bytes.{Keeps}
use Rattle.listing_lines.proofs.keep_line.Given as goal

abbrev pub invariant-loop-i : goal.invariant-loop-i
invariant-loop-i l = (l.i ≤ l.n)
    × (l.kept ≤ 17)
    × (length l.line ≡ 17)
    × (length l.line ≡ length l.initial.line)
    × Keeps (take l.before l.initial.line) l.bytes (take l.kept l.line) (drop l.i l.bytes)

abbrev pub decreases-loop-i : goal.decreases-loop-i
decreases-loop-i l = l.n - l.i

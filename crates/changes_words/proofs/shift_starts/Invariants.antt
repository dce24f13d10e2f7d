-- The loop has written where the trips up to k end.
use mathlib.Core.Path.{◌≡◌}
use Prim.Native.Nat.{◌≤◌, ◌+◌, ◌-◌}
use lib.ListN.{length, take}
use Rattle.words.specs.Put.{put}
use Rattle.changes_places.specs.Runs.{ends_at}
use Rattle.changes_words.proofs.shift_starts.Given as goal

abbrev pub invariant-loop-k : goal.invariant-loop-k
invariant-loop-k l = (l.from ≤ l.k)
    × (l.k ≤ l.to)
    × (length l.starts ≡ 257)
    × (l.starts ≡ put (l.p.trips + 1) (take (l.k - l.from) (ends_at l.words l.from l.to l.p.stops)) l.initial.starts)

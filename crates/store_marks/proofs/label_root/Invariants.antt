-- What is left to label at the departures from place k on comes to the labels of all of them.
use mathlib.Core.Path.{◌≡◌}
use Prim.Native.Nat.{◌≤◌}
use lib.ListN.{length, get_or}
use lib.Seq.{slice}
use Rattle.store_departures.specs.Order.{waiting}
use Rattle.store_marks.specs.Riding.{root_label}
use Rattle.store_marks.specs.Arrays.{fill}
use Rattle.store_marks.proofs.label_root.Given as goal

abbrev pub invariant-loop-k : goal.invariant-loop-k
invariant-loop-k l = (get_or l.first l.source 0 ≤ l.k) × (l.k ≤ l.end) × (length l.x ≡ 2048)
    × (fill (root_label l.words l.d) (waiting l.words l.source) l.initial.x ≡ fill (root_label l.words l.d)
    (slice l.k l.end l.chain) l.x)

-- For the minutes so far none is kept.
use mathlib.Core.Path.{◌≡◌}
use lib.ListN.{length}
use Rattle.query_kept.specs.Keeping.{Unkept}
use Rattle.query_kept.proofs.rides.fill_none.Given as goal

abbrev pub invariant-loop-a : goal.invariant-loop-a
invariant-loop-a l = (length l.kept ≡ 11520) × Unkept l.kept l.a

-- What the walks before place k reach is written; what stands in front of it is not touched.
use Prim.Native.Nat.{◌+◌}
use Rattle.store_departures.specs.Held.{Front, Standing}
use Rattle.store_catches.specs.Keeping.{KeptWalks}
use Rattle.store_catches.proofs.keep_walks.Given as goal

abbrev pub invariant-loop-k : goal.invariant-loop-k
invariant-loop-k l = Standing l.words l.chain l.first × KeptWalks l.words l.j l.base
    l.begin l.k l.chain
    × Front (l.base + l.begin) l.initial.chain l.chain

-- What was read last lies within the chunk.
use Rattle.std.specs.Io.{ReadsAtMost}
use Rattle.listing_chunks.proofs.read.Given as goal

abbrev pub invariant-loop : goal.invariant-loop
invariant-loop g l = ReadsAtMost l.got l.chunk

-- Two cases: number 0 with a count and no line, or a question's number with its line and no count.
use Rattle.replies_packed.proofs.PackedLaws.{lines_packed, line_packed}
use Rattle.replies_packed.proofs.pack_reply.Goals as goal

pub returns-in-Ok : goal.returns-in-Ok
returns-in-Ok g c = search lines_packed

pub returns-in-Err : goal.returns-in-Err
returns-in-Err g c = search line_packed

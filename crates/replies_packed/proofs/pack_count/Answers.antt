-- Two cases: number 0 with a count, or a question's number without one.
use Rattle.replies_packed.proofs.PackedLaws.{ok_packed, err_packed}
use Rattle.replies_packed.proofs.pack_count.Goals as goal

pub returns-in-Ok : goal.returns-in-Ok
returns-in-Ok g c = search ok_packed

pub returns-in-Err : goal.returns-in-Err
returns-in-Err g c = search err_packed

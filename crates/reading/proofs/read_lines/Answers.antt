use Rattle.std.proofs.Common.{refl}
use Prim.Native.Nat.{◌-◌}
use Rattle.reading.proofs.LoopLaws.{kept_at_first, from_fits, rest_refused, lines_end, line_refused, line_kept}
use Rattle.reading.proofs.read_lines.Goals as goal

pub loop-rules-init : goal.loop-rules-init
loop-rules-init c = search kept_at_first

pub returns-then-from-n : goal.returns-then-from-n
returns-then-from-n c = search lines_end

pub returns-then-end-n : goal.returns-then-end-n
returns-then-end-n c = search rest_refused

pub returns-in-Err : goal.returns-in-Err
returns-in-Err c = search (line_refused, refl, c.in-Err.ensures)

pub overflow_add-from : goal.overflow_add-from
overflow_add-from c = record { fits = search from_fits }

pub loop-rules-preserved : goal.loop-rules-preserved
loop-rules-preserved c = search (line_kept, refl, c.in-Ok.ensures)

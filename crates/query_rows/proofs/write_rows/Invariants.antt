-- The words written so far are those of the rows before the minute, and the rest is left.
use mathlib.Core.Path.{◌≡◌}
use Prim.Native.Nat.{◌≤◌, ◌-◌}
use lib.ListN.{length, take}
use Rattle.words.specs.Put.{put}
use Rattle.promises.specs.Query.{rows, row_words}
use Rattle.query_minutes.specs.Ending.{LeadsEnd}
use Rattle.query_rows.proofs.PassLaws.{Going}
use Rattle.query_rows.proofs.write_rows.Given as goal

abbrev pub invariant-loop-arrive : goal.invariant-loop-arrive
invariant-loop-arrive l = (l.arrive ≤ 2880)
    × LeadsEnd l.best l.end
    × (length l.answer ≡ length l.initial.answer)
    × (length l.work ≡ length l.initial.work)
    × Going l.best (rows l.words l.store l.asked.from l.asked.to l.asked.minute) l.here l.least.0 l.arrive
    × (l.answer ≡ put 0 (take l.here (row_words (rows l.words l.store l.asked.from l.asked.to l.asked.minute)))
    l.initial.answer)

-- The words counted so far are those of the rows before the minute, each of which has the word of its arc.
use mathlib.Core.Path.{◌≡◌}
use Prim.Native.Nat.{◌≤◌, ◌*◌, ◌-◌}
use lib.ListN.{length}
use Rattle.promises.specs.Query.{rows}
use Rattle.query_minutes.specs.Ending.{LeadsEnd}
use Rattle.query_rows.specs.Named.{AllNamed}
use Rattle.query_rows.proofs.PassLaws.{Counting}
use Rattle.query_rows.proofs.measure.Given as goal

abbrev pub invariant-loop-arrive : goal.invariant-loop-arrive
invariant-loop-arrive l = (l.arrive ≤ 2880)
    × (l.count ≤ 195 * l.arrive)
    × LeadsEnd l.best l.end
    × (length l.who ≡ 2880)
    × (length l.work ≡ length l.initial.work)
    × AllNamed l.words l.store l.asked.from l.asked.to l.asked.minute l.best l.who
    × Counting l.best l.who (rows l.words l.store l.asked.from l.asked.to l.asked.minute) l.count l.least.0 l.arrive

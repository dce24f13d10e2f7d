-- Target before predecessor; the last arc has none behind it.
use Rattle.query_store.proofs.TestLaws.{rises_last, rises_up, falls_down, rises_level}
use Rattle.query_store.proofs.arc_rises.Goals as goal

pub returns-then-arc_count-next : goal.returns-then-arc_count-next
returns-then-arc_count-next c = search rises_last

pub returns-then-target-later : goal.returns-then-target-later
returns-then-target-later c = search rises_up

pub returns-then-later-target : goal.returns-then-later-target
returns-then-later-target c = search falls_down

pub returns : goal.returns
returns c = search rises_level

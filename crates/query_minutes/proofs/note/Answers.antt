-- Inside the slice one word is lowered; past its end nothing is stored, and `set` changes nothing.
use Rattle.query_minutes.proofs.NoteLaws.{note_past, note_here}
use Rattle.query_minutes.proofs.note.Goals as goal

pub returns-then-arrive-best-clause-best_after : goal.returns-then-arrive-best-clause-best_after
returns-then-arrive-best-clause-best_after c = search note_here

pub returns-else-arrive-best-clause-best_after : goal.returns-else-arrive-best-clause-best_after
returns-else-arrive-best-clause-best_after c = search note_past

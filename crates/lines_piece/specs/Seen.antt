-- What the code returns of a line's place, as numbers: both are 0 when refused.
use Rattle.std.specs.Prelude.{ℕ, Result, Ok, Err}
use Rattle.questions.specs.declared.Refusal.{Refusal}
use Rattle.lines_piece.specs.declared.Place.{Place}

abbrev pub start_seen : Result Place Refusal → ℕ
start_seen (Ok place) = place.start
start_seen (Err refusal) = 0

abbrev pub count_seen : Result Place Refusal → ℕ
count_seen (Ok place) = place.count
count_seen (Err refusal) = 0

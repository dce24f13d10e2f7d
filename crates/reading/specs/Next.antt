-- What taking a line answers: the progress after it, or the number of the first no. The code returns a Result;
-- `next_seen` is the answer that it is.
use Rattle.std.specs.Prelude.{◌≡◌, ℕ, Result, Ok, Err}
use Rattle.std.proofs.Common.{ap}
use Rattle.questions.specs.declared.Refusal.{Refusal}
use Rattle.questions.specs.Refused.{question_number, number_injective}
use Rattle.reading_lines.specs.declared.Progress.{Progress}

pub data Next : Type 0 where
  On : Progress → Next
  Refused : (number : ℕ) → Next

abbrev pub next_seen : Result Progress Refusal → Next
next_seen (Ok progress) = On progress
next_seen (Err refusal) = Refused (question_number refusal)

-- ---- the answer tells all of what the code returns
abbrev progress_of : Progress → Next → Progress
progress_of other (On progress) = progress
progress_of other (Refused number) = other

abbrev some_number : Next → ℕ
some_number (On progress) = 0
some_number (Refused number) = number

pub next_injective : (a b : Result Progress Refusal) → next_seen a ≡ next_seen b → a ≡ b
next_injective (Ok progress) (Ok other) e = ap (λ p. Ok (progress_of progress p)) e
next_injective (Ok progress) (Err s) e = cc
next_injective (Err r) (Ok other) e = cc
next_injective (Err r) (Err s) e = ap Err (number_injective r s (ap some_number e))

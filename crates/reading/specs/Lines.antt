-- What reading all lines answers: the progress after them and their number, or the refusal's number with its line. The
-- code returns a Result; `lines_seen` is the answer that it is.
use Rattle.std.specs.Prelude.{◌≡◌, ℕ, Result, Ok, Err}
use Rattle.std.proofs.Common.{ap}
use Rattle.questions.specs.Refused.{question_number}
use Rattle.reading_lines.specs.declared.Progress.{Progress}
use Rattle.reading.specs.declared.RefusedLine.{RefusedLine}
use Rattle.reading.specs.Reply.{refused_injective}

pub data Lines : Type 0 where
  Accepted : Progress → (lines : ℕ) → Lines
  Refused : (number line : ℕ) → Lines

abbrev pub lines_seen : Result (Progress × ℕ) RefusedLine → Lines
lines_seen (Ok read) = Accepted read.0 read.1
lines_seen (Err refused) = Refused (question_number refused.refusal) refused.line

-- ---- the answer tells all of what the code returns
abbrev progress_of : Progress → Lines → Progress
progress_of other (Accepted progress lines) = progress
progress_of other (Refused number line) = other

abbrev first_of : Lines → ℕ
first_of (Accepted progress lines) = lines
first_of (Refused number line) = number

abbrev second_of : Lines → ℕ
second_of (Accepted progress lines) = 0
second_of (Refused number line) = line

pub lines_injective : (a b : Result (Progress × ℕ) RefusedLine) → lines_seen a ≡ lines_seen b → a ≡ b
lines_injective (Ok read) (Ok other) e =
    let progress = ap (progress_of read.0) e in
    let lines = ap first_of e in
    λ i. Ok (progress i, lines i)
lines_injective (Ok read) (Err s) e = cc
lines_injective (Err r) (Ok other) e = cc
lines_injective (Err r) (Err s) e = ap Err (refused_injective r s (ap first_of e) (ap second_of e))

-- What reading the lines of an extra trip answers: all of them read, or the refusal's number with its line. The code
-- returns a Result; `found_seen` is the answer that it is.
use Rattle.std.specs.Prelude.{◌≡◌, refl, ℕ, Result, Ok, Err, ⊤}
use Rattle.std.proofs.Common.{ap}
use Rattle.questions.specs.Refused.{question_number}
use Rattle.reading.specs.declared.RefusedLine.{RefusedLine}
use Rattle.reading.specs.Reply.{refused_injective}

pub data Found : Type 0 where
  Whole : Found
  Refused : (number line : ℕ) → Found

abbrev pub found_seen : Result ⊤ RefusedLine → Found
found_seen (Ok done) = Whole
found_seen (Err refused) = Refused (question_number refused.refusal) refused.line

-- ---- the answer tells all of what the code returns
abbrev first_of : Found → ℕ
first_of Whole = 0
first_of (Refused number line) = number

abbrev second_of : Found → ℕ
second_of Whole = 0
second_of (Refused number line) = line

pub found_injective : (a b : Result ⊤ RefusedLine) → found_seen a ≡ found_seen b → a ≡ b
found_injective (Ok done) (Ok other) e = refl
found_injective (Ok done) (Err s) e = cc
found_injective (Err r) (Ok other) e = cc
found_injective (Err r) (Err s) e = ap Err (refused_injective r s (ap first_of e) (ap second_of e))

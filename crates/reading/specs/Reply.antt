-- What reading answers, in document 01's terms: the text's lines, or the refusal's number with its line. The code
-- returns a Result; `read_seen` is the reply that it is.
use Rattle.std.specs.Prelude.{◌≡◌, ℕ, Result, Ok, Err}
use Rattle.std.proofs.Common.{ap}
use Rattle.questions.specs.Refused.{question_number, number_injective}
use Rattle.reading.specs.declared.RefusedLine.{RefusedLine}

pub data Reply : Type 0 where
  Done : (lines : ℕ) → Reply
  Refused : (number line : ℕ) → Reply

abbrev pub read_seen : Result ℕ RefusedLine → Reply
read_seen (Ok lines) = Done lines
read_seen (Err refused) = Refused (question_number refused.refusal) refused.line

-- ---- the reply tells all of what the code returns
pub refused_injective : (r s : RefusedLine) → question_number r.refusal ≡ question_number s.refusal → r.line ≡ s.line
    → r ≡ s
refused_injective r s e f =
    let g = number_injective r.refusal s.refusal e in
    λ i. record { refusal = g i; line = f i }

abbrev first_of : Reply → ℕ
first_of (Done lines) = lines
first_of (Refused number line) = number

abbrev second_of : Reply → ℕ
second_of (Done lines) = 0
second_of (Refused number line) = line

pub read_injective : (a b : Result ℕ RefusedLine) → read_seen a ≡ read_seen b → a ≡ b
read_injective (Ok m) (Ok n) e = ap (λ r. Ok (first_of r)) e
read_injective (Ok m) (Err s) e = cc
read_injective (Err r) (Ok n) e = cc
read_injective (Err r) (Err s) e = ap Err (refused_injective r s (ap first_of e) (ap second_of e))

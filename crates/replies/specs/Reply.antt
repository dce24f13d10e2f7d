-- What a call answers, in document 01's terms: a count, or the number of the first no. The code returns a Result, whose
-- Ok has the count and whose Err the question; `reply_seen` is the reply that it is.
use Rattle.std.specs.Prelude.{◌≡◌, ℕ, Result, Ok, Err}
use Rattle.std.proofs.Common.{sym, ap}
use Rattle.questions.specs.declared.Refusal.{Refusal}
use Rattle.questions.specs.Refused.{question_number, number_injective}

pub data Reply : Type 0 where
  Done : (count : ℕ) → Reply
  Refused : (number : ℕ) → Reply

abbrev pub reply_seen : Result ℕ Refusal → Reply
reply_seen (Ok count) = Done count
reply_seen (Err refusal) = Refused (question_number refusal)

-- ---- the reply tells all of what the code returns
abbrev some_number : Reply → ℕ
some_number (Done count) = count
some_number (Refused number) = number

pub reply_injective : (a b : Result ℕ Refusal) → reply_seen a ≡ reply_seen b → a ≡ b
reply_injective (Ok m) (Ok n) e = ap (λ r. Ok (some_number r)) e
reply_injective (Ok m) (Err s) e = cc
reply_injective (Err r) (Ok n) e = cc
reply_injective (Err r) (Err s) e = ap Err (number_injective r s (ap some_number e))

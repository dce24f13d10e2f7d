-- A reply whose refusal is told by numbers: of whatever type it is, it has its number, and where the call reads lines
-- its line. What the code returns is the reply that it was seen as.
use Rattle.std.specs.Prelude.{◌≡◌, refl, ℕ, Result, Ok, Err}
use Rattle.std.proofs.Common.{ap, ◌∙◌}
use Rattle.questions.specs.declared.Refusal.{Refusal}
use Rattle.questions.specs.Refused.{question_number}
use Rattle.replies.specs.Reply.{Reply as Counted, Done as CountDone, Refused as CountRefused, reply_seen}
use Rattle.reading.specs.declared.RefusedLine.{RefusedLine}
use Rattle.reading.specs.Reply.{Reply, Done, Refused, read_seen}
use Rattle.promises.specs.Packed.{packed_reply, packed_count}

-- the reply of a call that counts
abbrev pub count_told : {R : Type 0} → (R → ℕ) → Result ℕ R → Counted
count_told number (Ok count) = CountDone count
count_told number (Err refused) = CountRefused (number refused)

-- the reply of a call that reads lines
abbrev pub lines_told : {R : Type 0} → (number line : R → ℕ) → Result ℕ R → Reply
lines_told number line (Ok lines) = Done lines
lines_told number line (Err refused) = Refused (number refused) (line refused)

-- ---- of the questions themselves they are the replies that the promises speak of
pub count_told_seen : (reply : Result ℕ Refusal) → count_told question_number reply ≡ reply_seen reply
count_told_seen (Ok count) = refl
count_told_seen (Err refusal) = refl

abbrev pub line_number : RefusedLine → ℕ
line_number refused = question_number refused.refusal

pub lines_told_seen : (reply : Result ℕ RefusedLine)
    → lines_told line_number (λ refused. refused.line) reply ≡ read_seen reply
lines_told_seen (Ok lines) = refl
lines_told_seen (Err refused) = refl

pub count_seen_packed : (reply : Result ℕ Refusal) (r : ℕ) (other : Counted)
    → r ≡ packed_count (count_told question_number reply) → reply_seen reply ≡ other → r ≡ packed_count other
count_seen_packed reply r other e f = e ∙ ap packed_count (count_told_seen reply ∙ f)

pub lines_seen_packed : (reply : Result ℕ RefusedLine) (r : ℕ) (other : Reply)
    → r ≡ packed_reply (lines_told line_number (λ refused. refused.line) reply) → read_seen reply ≡ other
    → r ≡ packed_reply other
lines_seen_packed reply r other e f = e ∙ ap packed_reply (lines_told_seen reply ∙ f)

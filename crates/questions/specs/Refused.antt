-- The numbers of the questions, and those of what was asked. "Questions put to each call, and the number for no .. the
-- first no ends it." "Success has number 0."
use Rattle.std.specs.Prelude.{◌≡◌, refl, cond, ℕ, suc, pred, eqb, Result, Ok, Err, ⊤}
use Rattle.std.proofs.Common.{◌∙◌, sym, ap, arith}
use Rattle.questions.specs.declared.Refusal.{Refusal}
use Rattle.questions.specs.declared.Refusal.TheVariants.{
  TextTooLong,
  Shape,
  Range,
  Place,
  Count,
  Fit,
  End,
  Space,
  NoTimetable,
  OtherTables,
  NotNamed,
  Minute,
  NoStore,
  NoConnection,
  Room,
  NotRunning,
  Running,
}

abbrev pub question_number : Refusal → ℕ
question_number TextTooLong = 1
question_number Shape = 2
question_number Range = 3
question_number Place = 4
question_number Count = 5
question_number Fit = 6
question_number End = 7
question_number Space = 8
question_number NoTimetable = 9
question_number OtherTables = 10
question_number NotNamed = 11
question_number Minute = 12
question_number NoStore = 13
question_number NoConnection = 14
question_number Room = 15
question_number NotRunning = 18
question_number Running = 19

-- the number of what was asked: 0 where each question has its yes
abbrev pub number_seen : {T : Type 0} → Result T Refusal → ℕ
number_seen (Ok done) = 0
number_seen (Err refusal) = question_number refusal

-- ---- no question has number 0
pub number_after : (r : Refusal) → suc (pred (question_number r)) ≡ question_number r
number_after TextTooLong = refl
number_after Shape = refl
number_after Range = refl
number_after Place = refl
number_after Count = refl
number_after Fit = refl
number_after End = refl
number_after Space = refl
number_after NoTimetable = refl
number_after OtherTables = refl
number_after NotNamed = refl
number_after Minute = refl
number_after NoStore = refl
number_after NoConnection = refl
number_after Room = refl
number_after NotRunning = refl
number_after Running = refl

pub number_some : (r : Refusal) → question_number r ≡ 0 → ⊥
number_some r e = omega (arith, number_after r)

-- ---- and no two have the same
abbrev refusal_of : ℕ → Refusal
refusal_of n =
    cond (eqb n 1) TextTooLong (
    cond (eqb n 2) Shape (
    cond (eqb n 3) Range (
    cond (eqb n 4) Place (
    cond (eqb n 5) Count (
    cond (eqb n 6) Fit (
    cond (eqb n 7) End (
    cond (eqb n 8) Space (
    cond (eqb n 9) NoTimetable (
    cond (eqb n 10) OtherTables (
    cond (eqb n 11) NotNamed (
    cond (eqb n 12) Minute (
    cond (eqb n 13) NoStore (
    cond (eqb n 14) NoConnection (
    cond (eqb n 15) Room (
    cond (eqb n 18) NotRunning Running)))))))))))))))

refusal_back : (r : Refusal) → refusal_of (question_number r) ≡ r
refusal_back TextTooLong = refl
refusal_back Shape = refl
refusal_back Range = refl
refusal_back Place = refl
refusal_back Count = refl
refusal_back Fit = refl
refusal_back End = refl
refusal_back Space = refl
refusal_back NoTimetable = refl
refusal_back OtherTables = refl
refusal_back NotNamed = refl
refusal_back Minute = refl
refusal_back NoStore = refl
refusal_back NoConnection = refl
refusal_back Room = refl
refusal_back NotRunning = refl
refusal_back Running = refl

pub number_injective : (r s : Refusal) → question_number r ≡ question_number s → r ≡ s
number_injective r s e = sym (refusal_back r) ∙ ap refusal_of e ∙ refusal_back s

-- so the number tells all of what was asked
pub seen_injective : (a b : Result ⊤ Refusal) → number_seen a ≡ number_seen b → a ≡ b
seen_injective (Ok x) (Ok y) e = refl
seen_injective (Ok x) (Err s) e = absurd (number_some s (sym e))
seen_injective (Err r) (Ok y) e = absurd (number_some r e)
seen_injective (Err r) (Err s) e = ap Err (number_injective r s e)

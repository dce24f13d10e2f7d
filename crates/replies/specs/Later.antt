-- Questions after questions: the later ones count where the earlier all have their yes, so that a call may put some of
-- its questions through another.
use Rattle.std.specs.Prelude.{◌≡◌, refl, Bool, true, false, cond, List, [], ◌∷◌, ◌++◌, ℕ, suc, pred, eqb}
use Rattle.std.proofs.Common.{◌∙◌, sym}
use Rattle.std.proofs.Math.Dec.{eqb-suc-zero}
use Rattle.questions.specs.Question.{Question, ask, first_no}
use Rattle.questions.specs.declared.Refusal.{Refusal}
use Rattle.questions.specs.Refused.{question_number, number_after}

-- no question of the list has number 0
pub record Asked (l : List Question) : Type 0 where
  pub number : (m : List Question) → first_no (l ++ m) ≡ cond (eqb (first_no l) 0) (first_no m) (first_no l)

pub asked_none : Asked []
asked_none = record { number = λ m. refl }

pub asked_more : (n : ℕ) (t : Bool) (l : List Question) → Asked l → Asked (ask (suc n) t ∷ l)
asked_more n true l a = record { number = a.number }
asked_more n false l a = record { number = λ m. rw (eqb-suc-zero n) }

module _ (l m : List Question) (a : Asked l) where
  pub asked_on : first_no l ≡ 0 → first_no (l ++ m) ≡ first_no m
  asked_on e = rw (a.number m, e)

  pub asked_out : (n : ℕ) → suc n ≡ first_no l → first_no (l ++ m) ≡ suc n
  asked_out n e = rw (a.number m, ← e, eqb-suc-zero n)

  -- so the first no is that of the earlier questions
  pub asked_refused : (r : Refusal) → question_number r ≡ first_no l → question_number r ≡ first_no (l ++ m)
  asked_refused r e =
      sym (asked_out (pred (question_number r)) (number_after r ∙ e) ∙ number_after r)

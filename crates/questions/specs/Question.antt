-- "Questions put to each call, and the number for no: only those that concern the call, in this order; the first no
-- ends it." "Success has number 0."
use Rattle.std.specs.Prelude.{◌≡◌, refl, Bool, true, false, cond, List, [], ◌∷◌, ℕ, suc}
use Rattle.std.proofs.Common.{arith}

pub record Question : Type 0 where
  pub number : ℕ
  pub answer : Bool

abbrev pub ask : ℕ → Bool → Question
ask number answer = record { number = number; answer = answer }

-- the number of the first question with a no, or 0
abbrev pub first_no : List Question → ℕ
first_no [] = 0
first_no (q ∷ l) = cond q.answer (first_no l) q.number

-- ---- where no question has a no, each has its yes
pub yes_here : (n : ℕ) (t : Bool) (l : List Question) → first_no (ask (suc n) t ∷ l) ≡ 0 → t ≡ true
yes_here n true l e = refl
yes_here n false l e = absurd (omega arith)

pub yes_later : (n : ℕ) (t : Bool) (l : List Question) → first_no (ask (suc n) t ∷ l) ≡ 0 → first_no l ≡ 0
yes_later n true l e = e
yes_later n false l e = absurd (omega arith)

-- What a call answers and writes, from the number of its first no and its result. Document 01: "A refusal returns its
-- number, .. count 0, and writes no word of any result slice. Words past a result keep their values"; "Success has
-- number 0."
use Rattle.std.specs.Prelude.{◌≡◌, pred, eqb}
use Rattle.std.proofs.Math.Path.{refl, ap}
use Rattle.std.proofs.Common.{◌∙◌}
use Rattle.std.proofs.Math.Bool.{cond}
use mathlib.Core.List.{List, [], ◌∷◌}
use Prim.Native.Nat.{ℕ, zero, suc}
use Rattle.std.proofs.Math.Dec.{eqb-suc-zero}
use Rattle.words.specs.Put.{put}
use Rattle.questions.specs.declared.Refusal.{Refusal}
use Rattle.questions.specs.Refused.{question_number, number_after}
use Rattle.replies.specs.Reply.{Reply, Done, Refused}

-- each case of the reply has its number and count
abbrev pub number_of : Reply → ℕ
number_of (Done count) = 0
number_of (Refused number) = number

abbrev pub count_of : Reply → ℕ
count_of (Done count) = count
count_of (Refused number) = 0

-- the reply, where the first no has this number, and the result this count
unfoldable pub reply_of : (number count : ℕ) → Reply
reply_of number count = cond (eqb number 0) (Done count) (Refused number)

-- number and count of a reply, and those where the first no has this number, and the result this count: "A refusal
-- returns its number, .. count 0"
abbrev pub values_of : Reply → List ℕ
values_of r = number_of r ∷ count_of r ∷ []

unfoldable pub values_for : (number count : ℕ) → List ℕ
values_for number count = number ∷ cond (eqb number 0) count 0 ∷ []

-- the words of the result slice
unfoldable pub words_after : (number : ℕ) → (result old : List ℕ) → List ℕ
words_after number result old = cond (eqb number 0) (put 0 result old) old

-- ---- the two cases
module _ (number count : ℕ) where
  pub reply_done : number ≡ 0 → Done count ≡ reply_of number count
  unfolding reply_of
  reply_done e = rw e

  pub reply_refused : (n : ℕ) → suc n ≡ number → Refused (suc n) ≡ reply_of number count
  unfolding reply_of
  reply_refused n e = rw (← e, eqb-suc-zero n)

  -- the refusal of a question is refused by its number
  pub reply_asked : (r : Refusal) → question_number r ≡ number → Refused (question_number r) ≡ reply_of number count
  reply_asked r e = rw (← number_after r) (reply_refused (pred (question_number r)) (number_after r ∙ e))

  pub reply_number : number_of (reply_of number count) ≡ number
  unfolding reply_of
  reply_number = go number
    where
      go : (n : ℕ) → number_of (cond (eqb n 0) (Done count) (Refused n)) ≡ n
      go zero = refl
      go (suc n) = rw (eqb-suc-zero n)

  pub reply_values : (r : Reply) → r ≡ reply_of number count → values_of r ≡ values_for number count
  unfolding reply_of values_for
  reply_values r e = ap values_of e ∙ go number
    where
      go : (n : ℕ)
          → values_of (cond (eqb n 0) (Done count) (Refused n)) ≡ n ∷ cond (eqb n 0) count 0 ∷ []
      go zero = refl
      go (suc n) = rw (eqb-suc-zero n)

module _ (number : ℕ) (result old : List ℕ) where
  pub words_done : number ≡ 0 → put 0 result old ≡ words_after number result old
  unfolding words_after
  words_done e = rw e

  pub words_kept : (n : ℕ) → suc n ≡ number → old ≡ words_after number result old
  unfolding words_after
  words_kept n e = rw (← e, eqb-suc-zero n)

  pub words_asked : (r : Refusal) → question_number r ≡ number → old ≡ words_after number result old
  words_asked r e = words_kept (pred (question_number r)) (number_after r ∙ e)

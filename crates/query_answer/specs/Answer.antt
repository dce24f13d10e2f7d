-- What is answered from a store that is well made: questions 14 and 15, and the rows.
use Rattle.std.specs.Prelude.{List, [], ◌∷◌, ℕ, leb, length}
use Rattle.questions.specs.Question.{Question, ask, first_no}
use Rattle.replies.specs.Reply.{Reply}
use Rattle.replies.specs.Replies.{reply_of, words_after}
use Rattle.promises.specs.Query.{kept, rows, row_words}

abbrev pub two_questions : (w s : List ℕ) (a b u m : ℕ) → List Question
two_questions w s a b u m =
    ask 14 (leb 1 (length (kept w s a b u))) ∷ ask 15 (leb (length (row_words (rows w s a b u))) m) ∷ []

unfoldable pub shown_number : (w s : List ℕ) (a b u m : ℕ) → ℕ
shown_number w s a b u m = first_no (two_questions w s a b u m)

unfoldable pub shown_reply : (w s : List ℕ) (a b u m : ℕ) → Reply
shown_reply w s a b u m = reply_of (shown_number w s a b u m) (length (rows w s a b u))

unfoldable pub shown_words : (w s : List ℕ) (a b u : ℕ) (old : List ℕ) → List ℕ
shown_words w s a b u old = words_after (shown_number w s a b u (length old)) (row_words (rows w s a b u)) old

-- The trips of one line: the numbers of the call, and where the piece that holds the trips stands.
use mathlib.Core.Path.{◌≡◌, refl, sym, ap, ◌∙◌}
use mathlib.Core.Bool.{Bool, true, false, cond, ◌&&◌}
use mathlib.Core.List.{List, [], ◌∷◌}
use Prim.Native.Nat.{ℕ, ◌+◌, ◌-◌, ◌≤◌, ◌<◌}
use native.Mathlib.Nat.{add-sub_cancel_left}
use native.Mathlib.Omega.{arith}
use borrow.Author.Tests.{le-leb, lt-leb, eq-eqb, ne_eqb}
use lib.Dec.{leb, eqb}
use lib.ListN.{length, get_or, take, drop, length-drop}
use lib.Seq.{length-take-le}
use Rattle.questions.specs.Question.{ask, first_no}
use Rattle.lines_lookup.specs.Lookup.{Line, line_count, line_at}
use Rattle.lines_alone.specs.Drawn.{are_some, alone_number}
use Rattle.lines_piece.specs.Handed.{line_least, line_most, lines_few, piece_within, start_few}
use Rattle.lines_piece.specs.Piece.{piece_number, piece_start, piece_length, piece, start_told, length_told}

-- ---- the number: question 11 comes behind those that are asked without a line
abbrev without_line : (a b : Bool) → ℕ
without_line a b = first_no (ask 8 a ∷ ask 10 b ∷ [])

abbrev with_line : (a b c : Bool) → ℕ
with_line a b c = first_no (ask 8 a ∷ ask 10 b ∷ ask 11 c ∷ [])

earlier : (a b c : Bool) → (without_line a b ≡ 0 → ⊥) → without_line a b ≡ with_line a b c
earlier true true c h = absurd (h refl)
earlier true false c h = refl
earlier false b c h = refl

last_asked : (a b c : Bool) → without_line a b ≡ 0 → with_line a b c ≡ cond c 0 11
last_asked true true c e = refl
last_asked true false c e = absurd (omega arith)
last_asked false b c e = absurd (omega arith)

-- the tests of questions 8 and 11
abbrev long_test : (v : List ℕ) (n : ℕ) → Bool
long_test v n = leb 16384 (length v) && leb 16384 n

abbrev name_test : (v : List ℕ) (line : ℕ) → Bool
name_test v line = leb 1 line && leb line (line_count v)

module _ (v : List ℕ) (n line number : ℕ) (asked : number ≡ alone_number v n) where
  pub number_before : (number ≡ 0 → ⊥) → number ≡ piece_number v n line
  unfolding alone_number piece_number
  number_before h = asked ∙ earlier (long_test v n) (are_some v) (name_test v line) (λ e. h (asked ∙ e))

  module _ (zero-so-far : number ≡ 0) where
    last : piece_number v n line ≡ cond (name_test v line) 0 11
    unfolding alone_number piece_number
    last = last_asked (long_test v n) (are_some v) (name_test v line) (sym asked ∙ zero-so-far)

    pub no_line : line < 1 → 11 ≡ piece_number v n line
    no_line h = sym (last ∙ rw (lt-leb 1 line h))

    module _ (least : 1 ≤ line) (k : ℕ) (is : k ≡ get_or v 1 0) where
      pub line_past : k < line → 11 ≡ piece_number v n line
      line_past h =
          let past : leb line (get_or v 1 0) ≡ false = omega (arith, lt-leb) in
          sym (last ∙ rw (le-leb 1 line least, past))

      pub line_named : line ≤ k → 0 ≡ piece_number v n line
      line_named h =
          let inside : leb line (get_or v 1 0) ≡ true = omega (arith, le-leb) in
          sym (last ∙ rw (le-leb 1 line least, inside))

-- ---- where the number is 0
module _ (v : List ℕ) (n line number : ℕ) (asked : number ≡ piece_number v n line) where
  module _ (refused : number ≡ 0 → ⊥) where
    test_no : eqb (piece_number v n line) 0 ≡ false
    test_no = ne_eqb (piece_number v n line) 0 (λ e. refused (asked ∙ e))

    pub no_start : 0 ≡ start_told v n line
    unfolding start_told
    no_start = rw test_no

    pub no_length : 0 ≡ length_told v n line
    unfolding length_told
    no_length = rw test_no

  module _ (accepted : number ≡ 0) where
    zero_is : piece_number v n line ≡ 0
    zero_is = sym asked ∙ accepted

    pub line_counts : 1 ≤ line
    line_counts = line_least v n line zero_is

    pub place_small : line - 1 < 65536
    place_small = omega (arith, line_most v n line zero_is, lines_few v n line zero_is)

    test_yes : eqb (piece_number v n line) 0 ≡ true
    test_yes = eq-eqb (piece_number v n line) 0 zero_is

    module _ (l : Line) (is : l ≡ line_at v (line - 1)) where
      at_is : l.at + 2 ≡ piece_start v line
      unfolding piece_start line_at
      at_is = ap (λ (x : Line). x.at + 2) is

      trips_are : l.trips ≡ piece_length v line
      unfolding piece_length
      trips_are = ap (λ (x : Line). x.trips) is

      pub start_told_lem : l.at + 2 ≡ start_told v n line
      unfolding start_told
      start_told_lem = rw test_yes at_is

      pub length_told_lem : l.trips ≡ length_told v n line
      unfolding length_told
      length_told_lem = rw test_yes trips_are

      pub start_small : l.at + 2 ≤ 16384
      start_small = omega (arith, start_few v n line zero_is, at_is)

      pub piece_inside : l.at + 2 + l.trips ≤ length v
      piece_inside = omega (arith, piece_within v n line zero_is, at_is, trips_are)

-- ---- the piece
pub piece_is : (v : List ℕ) (n line s k : ℕ) → s ≡ start_told v n line → k ≡ length_told v n line
    → take (s + k - s) (drop s v) ≡ piece v n line
unfolding start_told length_told piece
piece_is v n line s k is-s is-k =
    rw add-sub_cancel_left
    ((λ i. take (is-k i) (drop (is-s i) v)) ∙ by_test (eqb (piece_number v n line) 0))
  where
    by_test : (b : Bool)
        → take (cond b (piece_length v line) 0) (drop (cond b (piece_start v line) 0) v)
        ≡ cond b (take (piece_length v line) (drop (piece_start v line) v)) []
    by_test true = refl
    by_test false = refl

-- a refused line has an empty one
pub none_piece : (v : List ℕ) (n line : ℕ) → 0 ≡ start_told v n line → 0 ≡ length_told v n line → [] ≡ piece v n line
none_piece v n line e f = piece_is v n line 0 0 e f

pub part_is : (v : List ℕ) (n line s k : ℕ) → s ≡ start_told v n line → k ≡ length_told v n line
    → take (s + k - s) (drop s v) ≡ take (length_told v n line) (drop (start_told v n line) v)
part_is v n line s k is-s is-k = rw add-sub_cancel_left (λ i. take (is-k i) (drop (is-s i) v))

module _ (v : List ℕ) (s k : ℕ) (within : s + k ≤ length v) where
  part_length : length (take (s + k - s) (drop s v)) ≡ k
  part_length =
      length-take-le (s + k - s) (drop s v) (omega (arith, length-drop s v)) ∙ omega arith

  pub part_long : (n line : ℕ) → k ≡ length_told v n line
      → length (take (s + k - s) (drop s v)) ≡ length_told v n line
  part_long n line told = part_length ∙ told

  pub part_few : k < 65536 → length (take (s + k - s) (drop s v)) < 65536
  part_few few = omega (arith, part_length)

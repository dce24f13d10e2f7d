-- The lines that the listing program prints, as bytes. Document 01: "Q: from, to, minute, rows. C: duration, penalty,
-- rides. R: trip, boarding stop, alighting stop. N: the query and its number."
use Rattle.std.specs.Prelude.{◌≡◌, refl, Bool, true, false, cond, List, [], ◌∷◌, ◌++◌, ℕ, zero, suc, ◌+◌, ◌-◌, ◌/◌, ◌%◌}
use Rattle.std.specs.Prelude.{◌*◌, ◌≤◌, ◌<◌, ltb, length, get_or, drop}
use Rattle.std.proofs.Common.{ap, add-one, arith, lt-ltb, le-ltb, ltb-true, ltb-false, length-append}
use Rattle.std.proofs.Common.{drop_of_length-le, drop-cons}

-- the decimal digits of n, and none in front that is 0, "except 0 itself"; fuel n suffices for n
spelled_in : (fuel n : ℕ) → List ℕ
spelled_in zero n = 48 ∷ []
spelled_in (suc fuel) n =
    let more = spelled_in fuel (n / 10) in
    cond (ltb n 10) ((48 + n) ∷ []) (more ++ ((48 + n % 10) ∷ []))

unfoldable pub spelled : ℕ → List ℕ
unfolding spelled_in
spelled n = spelled_in n n

-- "Fields stand in fixed order, parted by commas": each number with a comma (byte 44) in front of it
unfoldable pub fields : List ℕ → List ℕ
fields [] = []
fields (n ∷ l) = 44 ∷ spelled n ++ fields l

-- a letter, the numbers, and "byte 10"
unfoldable pub line_of : (letter : ℕ) (numbers : List ℕ) → List ℕ
line_of letter l = letter ∷ fields l ++ (10 ∷ [])

-- "Q: from, to, minute, rows."
abbrev pub query_line : (from to minute rows : ℕ) → List ℕ
query_line from to minute rows = line_of 81 (from ∷ to ∷ minute ∷ rows ∷ [])

-- "C: duration, penalty, rides."
abbrev pub cost_line : (duration penalty rides : ℕ) → List ℕ
cost_line duration penalty rides = line_of 67 (duration ∷ penalty ∷ rides ∷ [])

-- "R: trip, boarding stop, alighting stop."
abbrev pub ride_line : (trip board alight : ℕ) → List ℕ
ride_line trip board alight = line_of 82 (trip ∷ board ∷ alight ∷ [])

-- "N: the query and its number."
abbrev pub refused_line : (from to minute number : ℕ) → List ℕ
refused_line from to minute number = line_of 78 (from ∷ to ∷ minute ∷ number ∷ [])

-- "any other line of the input is misshapen and prints `N,2`": the number alone
abbrev pub misshapen_line : (number : ℕ) → List ℕ
misshapen_line number = line_of 78 (number ∷ [])

-- "A refused timetable prints only `X,number,line`."
abbrev pub refused_timetable : (number line : ℕ) → List ℕ
refused_timetable number line = line_of 88 (number ∷ line ∷ [])

-- The lines of an answer's words: "duration, penalty, number of rides, then trip, boarding stop, alighting stop per
-- ride". So many rows are still to come, after so many rides of the row that has begun.
unfoldable pub lines_from : List ℕ → (rows rides : ℕ) → List ℕ
lines_from [] rows rides = []
lines_from (a ∷ []) rows rides = []
lines_from (a ∷ b ∷ []) rows rides = []
lines_from (a ∷ b ∷ c ∷ w) rows (suc rides) = ride_line a b c ++ lines_from w rows rides
lines_from (a ∷ b ∷ c ∷ w) (suc rows) zero = cost_line a b c ++ lines_from w rows c
lines_from (a ∷ b ∷ c ∷ w) zero zero = []

-- a query with so many rows, which stand at the beginning of the answer
unfoldable pub answered : (from to minute rows : ℕ) (answer : List ℕ) → List ℕ
answered from to minute rows answer = query_line from to minute rows ++ lines_from answer rows 0

-- ---- digits
enough : (f g n : ℕ) → n ≤ f → n ≤ g → spelled_in f n ≡ spelled_in g n
unfolding spelled_in
enough zero zero n h k = refl
enough zero (suc g) n h k =
    let none : n ≡ 0 = omega arith in
    rw none
enough (suc f) zero n h k =
    let none : n ≡ 0 = omega arith in
    rw none
enough (suc f) (suc g) n h k =
    ap (λ more. cond (ltb n 10) ((48 + n) ∷ []) (more ++ ((48 + n % 10) ∷ [])))
    (enough f g (n / 10) (omega arith) (omega arith))

pub spelled_one : (n : ℕ) → n < 10 → spelled n ≡ (48 + n) ∷ []
unfolding spelled spelled_in
spelled_one zero h = refl
spelled_one (suc n) h = rw (lt-ltb (suc n) 10 h)

pub spelled_more : (n : ℕ) → 10 ≤ n → spelled n ≡ spelled (n / 10) ++ ((48 + n % 10) ∷ [])
unfolding spelled spelled_in
spelled_more zero h = absurd (omega arith)
spelled_more (suc n) h =
    rw (le-ltb (suc n) 10 h)
    (ap (λ more. more ++ ((48 + suc n % 10) ∷ [])) (enough n (suc n / 10) (suc n / 10) (omega arith) (omega arith)))

-- ten digits suffice for 32 bits
few_more : (most k : ℕ) → ((n : ℕ) → n < most → length (spelled n) ≤ k) → 1 ≤ k
    → (n : ℕ) → n < 10 * most → length (spelled n) ≤ k + 1
few_more most k few some n h = go (ltb n 10) refl
  where
    go : (t : Bool) → ltb n 10 ≡ t → length (spelled n) ≤ k + 1
    go true t = rw (spelled_one n (ltb-true n 10 t)) (omega arith)
    go false t =
        let less = few (n / 10) (omega arith) in
        rw (spelled_more n (ltb-false n 10 t), length-append) (omega (arith, less))

few_one : (n : ℕ) → n < 10 → length (spelled n) ≤ 1
few_one n h = rw (spelled_one n h) (omega arith)

pub digits_few : (n : ℕ) → n < 4294967296 → length (spelled n) ≤ 10
digits_few n h =
    let two = few_more 10 1 few_one (omega arith) in
    let three = few_more 100 2 two (omega arith) in
    let four = few_more 1000 3 three (omega arith) in
    let five = few_more 10000 4 four (omega arith) in
    let six = few_more 100000 5 five (omega arith) in
    let seven = few_more 1000000 6 six (omega arith) in
    let eight = few_more 10000000 7 seven (omega arith) in
    let nine = few_more 100000000 8 eight (omega arith) in
    few_more 1000000000 9 nine (omega arith) n (omega arith)

-- ---- fields
pub fields_more : (l : List ℕ) (k : ℕ) → k < length l
    → fields (drop k l) ≡ (44 ∷ spelled (get_or l k 0)) ++ fields (drop (k + 1) l)
unfolding fields
fields_more l k h = rw (drop-cons l k 0 h, add-one k)

pub fields_end : (l : List ℕ) (k : ℕ) → length l ≤ k → fields (drop k l) ≡ []
unfolding fields
fields_end l k h = rw (drop_of_length-le l {i = k} h)

-- ---- the lines of an answer, by its next three words
pub lines_short : (w : List ℕ) (rows rides : ℕ) → length w < 3 → lines_from w rows rides ≡ []
unfolding lines_from
lines_short [] rows rides g = refl
lines_short (a ∷ []) rows rides g = refl
lines_short (a ∷ b ∷ []) rows rides g = refl
lines_short (a ∷ b ∷ c ∷ w) rows rides g = absurd (omega arith)

three_words : (v : List ℕ) → length v ≡ 3 → (a b c : ℕ) × (v ≡ a ∷ b ∷ c ∷ [])
three_words [] e = absurd (omega arith)
three_words (a ∷ []) e = absurd (omega arith)
three_words (a ∷ b ∷ []) e = absurd (omega arith)
three_words (a ∷ b ∷ c ∷ []) e = (a, b, c, refl)
three_words (a ∷ b ∷ c ∷ d ∷ v) e = absurd (omega arith)

module _ (v w : List ℕ) (three : length v ≡ 3) where
  pub lines_end : lines_from (v ++ w) 0 0 ≡ []
  unfolding lines_from
  lines_end =
      let is = three_words v three in
      rw is.3

  pub lines_ride : (rows rides : ℕ) → lines_from (v ++ w) rows (suc rides) ≡ line_of 82 v ++ lines_from w rows rides
  unfolding lines_from
  lines_ride rows rides =
      let is = three_words v three in
      rw is.3

  pub lines_cost : (rows : ℕ)
      → lines_from (v ++ w) (suc rows) 0 ≡ line_of 67 v ++ lines_from w rows (get_or v 2 0)
  unfolding lines_from
  lines_cost rows =
      let is = three_words v three in
      rw is.3

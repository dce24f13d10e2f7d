-- A line of the listing's input. "A query is `Q,from,to,minute` with the timetable's numbers and line end; any other
-- line of the input is misshapen". Lines are taken here without their line ends.
use Rattle.std.specs.Prelude.{◌≡◌, false, cond, ◌&&◌, List, ◌∷◌, ℕ, eqb, length, get_or, drop, Option, Some, None}
use Rattle.std.proofs.Common.{arith, ne_eqb}
use Rattle.text.specs.Number.{is_number, field_value, field_values}
use Rattle.listing_queries.specs.declared.Query.{Query}

-- A line has a query or none, and each case its number: "any other line of the input is misshapen and prints `N,2`"
abbrev pub input_number : Option Query → ℕ
input_number (Some query) = 0
input_number None = 2

-- the number that a field's bytes spell, if they spell one
unfoldable pub number_of : List ℕ → Option ℕ
number_of f = cond (is_number (field_value f)) (Some (field_value f)) None

-- from the values of the three fields behind the Q
unfoldable pub asked_of : (from to minute : ℕ) → Option Query
asked_of from to minute =
    cond (is_number from && is_number to && is_number minute)
    (Some (record { from = from; to = to; minute = minute }))
    None

unfoldable pub fields_ask : List ℕ → Option Query
fields_ask v = cond (eqb (length v) 3) (asked_of (get_or v 0 0) (get_or v 1 0) (get_or v 2 0)) None

pub four_fields : (a b c d : ℕ) (v : List ℕ) → fields_ask (a ∷ b ∷ c ∷ d ∷ v) ≡ None
unfolding fields_ask
four_fields a b c d v =
    let many : eqb (length (a ∷ b ∷ c ∷ d ∷ v)) 3 ≡ false =
    ne_eqb (length (a ∷ b ∷ c ∷ d ∷ v)) 3 (λ e. omega arith) in
    simp many

-- A query begins with Q (byte 81) and a comma (byte 44).
unfoldable pub query_of : List ℕ → Option Query
query_of line =
    cond (eqb (get_or line 0 0) 81 && eqb (get_or line 1 0) 44) (fields_ask (field_values (drop 2 line))) None

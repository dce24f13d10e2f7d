-- A query has at most 16 bytes: two before its fields, three fields of at most four digits, and two commas. So a reader
-- that keeps the first 17 bytes of a line, however long it is, still tells what the line asks.
use Rattle.std.specs.Prelude.{◌≡◌, Bool, ◌&&◌, List, [], ◌∷◌, map, ℕ, ◌+◌, ◌≤◌, ◌<◌, eqb, leb, length, get_or, take}
use Rattle.std.specs.Prelude.{drop, Option, Some, None}
use Rattle.std.proofs.Math.Path.{refl}
use Rattle.std.proofs.Common.{sym, ap, ◌∙◌, arith, leb-true, leb-false, length-drop, length-take, take_all}
use Rattle.std.proofs.Math.Bool.{true, false, cond}
use Rattle.std.proofs.lemmas.Bool.{false≢true}
use Rattle.lists.specs.Tests.{and_left, and_right}
use Rattle.text.specs.Piece.{pieces, marked_length, pieces_length}
use Rattle.text.specs.Number.{is_number, field_value, field_values, value_long}
use Rattle.listing_queries.specs.Query.{asked_of, fields_ask, four_fields, query_of}
use Rattle.listing_queries.specs.declared.Query.{Query}

-- a number has at most four bytes
number_short : (f : List ℕ) → is_number (field_value f) ≡ true → length f ≤ 4
number_short f e = go (leb (length f) 4) refl
  where
    go : (t : Bool) → leb (length f) 4 ≡ t → length f ≤ 4
    go true t = leb-true (length f) 4 t
    go false t =
        let long : 4 < length f = leb-false (length f) 4 t in
        absurd (false≢true (rw (← value_long f (λ n. omega arith) long) at e))

-- longer fields ask nothing
module _ (a b c : List ℕ) (long : 12 < length a + length b + length c) where
  fields_long : asked_of (field_value a) (field_value b) (field_value c) ≡ None
  unfolding asked_of
  fields_long = go (is_number (field_value a) && is_number (field_value b) && is_number (field_value c)) refl
    where
      go : (t : Bool) → is_number (field_value a) && is_number (field_value b) && is_number (field_value c) ≡ t
          → cond {A = Option Query} t (Some (record {
            from = field_value a;
            to = field_value b;
            minute = field_value
                c;
          })) None
          ≡ None
      go true e =
          let ab = and_left (is_number (field_value a) && is_number (field_value b)) (is_number (field_value c)) e in
          let first = number_short a (and_left (is_number (field_value a)) (is_number (field_value b)) ab) in
          let second = number_short b (and_right (is_number (field_value a)) (is_number (field_value b)) ab) in
          let third =
          number_short c (and_right (is_number (field_value a) && is_number (field_value b)) (is_number (field_value c))
          e) in
          absurd (omega arith)
      go false e = refl

pieces_long : (l : List (List ℕ)) → 15 < marked_length l → fields_ask (map field_value l) ≡ None
unfolding fields_ask
pieces_long [] h = refl
pieces_long (a ∷ []) h = refl
pieces_long (a ∷ b ∷ []) h = refl
pieces_long (a ∷ b ∷ c ∷ []) h = fields_long a b c (omega arith)
pieces_long (a ∷ b ∷ c ∷ d ∷ l) h =
    four_fields (field_value a) (field_value b) (field_value c) (field_value d) (map field_value l)

pub long_misshapen : (line : List ℕ) → 16 < length line → query_of line ≡ None
unfolding query_of field_values
long_misshapen line h =
    let whole = pieces_length 44 (drop 2 line) in
    let rest : 15 < marked_length (pieces 44 (drop 2 line)) = omega (arith, whole, length-drop 2 line) in
    go (eqb (get_or line 0 0) 81 && eqb (get_or line 1 0) 44) (pieces_long (pieces 44 (drop 2 line)) rest)
  where
    go : (t : Bool) {r : Option Query} → r ≡ None → cond t r None ≡ None
    go true e = e
    go false e = refl

-- what the first 17 bytes of a line ask is what the line asks
pub cut : (line : List ℕ) → query_of (take 17 line) ≡ query_of line
cut line = go (leb (length line) 16) refl
  where
    go : (t : Bool) → leb (length line) 16 ≡ t → query_of (take 17 line) ≡ query_of line
    go true t =
        let short : length line ≤ 16 = leb-true (length line) 16 t in
        ap query_of (take_all 17 line (omega arith))
    go false t =
        let long : 16 < length line = leb-false (length line) 16 t in
        long_misshapen (take 17 line) (simp length-take (omega arith)) ∙ sym (long_misshapen line long)

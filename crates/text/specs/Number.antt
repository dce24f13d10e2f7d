-- "A number has one to four decimal digits and no leading zero, except 0 itself."
use Rattle.std.specs.Prelude.{◌≡◌, Bool, cond, ◌&&◌, ◌||◌, ℕ, ◌+◌, ◌-◌, ◌*◌, ◌≤◌, ◌<◌, leb, eqb, length}
use Rattle.std.proofs.Math.Path.{sym, ap}
use Rattle.std.proofs.Common.{◌∙◌, arith}
use Rattle.std.proofs.Math.Bool.{true, false}
use mathlib.Core.List.{List, [], ◌∷◌, map}
use Rattle.std.proofs.Math.Dec.{ltb}
use Rattle.std.proofs.Math.Numerals.{add-one}
use borrow.Author.Tests.{eq-eqb, ne_eqb, le-leb, lt-leb, le-ltb, lt-ltb}
use Rattle.std.proofs.Math.ListN.{get_or, drop, drop_of_length-le}
use Rattle.std.proofs.Math.Seq.{drop-cons}
use Rattle.lists.specs.Tests.{and_false}
use Rattle.text.specs.Piece.{pieces}

-- The values of an empty field and of a field that is neither empty nor a number stand above every number.
abbrev pub empty_field : ℕ
empty_field = 10000

abbrev pub no_number : ℕ
no_number = 10001

abbrev pub is_number : ℕ → Bool
is_number v = leb v 9999

-- a byte's value as a decimal digit; 10 for a byte that is none
unfoldable pub digit_value : ℕ → ℕ
digit_value b = cond (leb 48 b && leb b 57) (b - 48) 10

-- the value of the digits of s, behind digits of value v; no number where a byte is no digit
unfoldable pub decimal : ℕ → List ℕ → ℕ
decimal v [] = v
decimal v (b ∷ s) = cond (leb 10 (digit_value b)) no_number (decimal (v * 10 + digit_value b) s)

-- a field of several bytes that begins with the digit 0
abbrev pub leading_zero : List ℕ → Bool
leading_zero f = ltb 1 (length f) && eqb (get_or f 0 0) 48

-- the number that a field's bytes spell
unfoldable pub field_value : List ℕ → ℕ
field_value f =
    cond (eqb (length f) 0) empty_field
    (cond (ltb 4 (length f) || leading_zero f) no_number
    (decimal 0 f))

-- the values of the fields of s, "parted by commas" (byte 44)
unfoldable pub field_values : List ℕ → List ℕ
field_values s = map field_value (pieces 44 s)

-- ---- what a field is, by its length
module _ (f : List ℕ) where
  pub value_empty : length f ≡ 0 → empty_field ≡ field_value f
  unfolding field_value
  value_empty h = rw h

  pub value_long : (length f ≡ 0 → ⊥) → 4 < length f → no_number ≡ field_value f
  unfolding field_value
  value_long h g = simp (ne_eqb (length f) 0 h, lt-ltb 4 (length f) g)

  pub value_zero : get_or f 0 0 ≡ 48 → length f ≡ 1 → 0 ≡ field_value f
  unfolding field_value decimal digit_value
  value_zero e h =
      let whole : f ≡ get_or f 0 0 ∷ [] =
      drop-cons f 0 0 (omega arith) ∙ ap (λ s. get_or f 0 0 ∷ s) (drop_of_length-le f {i = 1} (omega arith)) in
      rw (whole, e)

  pub value_leading : (length f ≡ 0 → ⊥) → length f ≤ 4 → get_or f 0 0 ≡ 48 → (length f ≡ 1 → ⊥)
      → no_number ≡ field_value f
  unfolding field_value
  value_leading h g e l =
      let long : ltb 1 (length f) ≡ true = omega (arith, lt-ltb) in
      simp (ne_eqb (length f) 0 h, le-ltb 4 (length f) g, long, eq-eqb (get_or f 0 0) 48 e)

  pub value_digits : (length f ≡ 0 → ⊥) → length f ≤ 4 → (get_or f 0 0 ≡ 48 → ⊥) → field_value f ≡ decimal 0 f
  unfolding field_value
  value_digits h g e =
      let led : leading_zero f ≡ false =
      and_false (ltb 1 (length f)) (eqb (get_or f 0 0) 48) (ne_eqb (get_or f 0 0) 48 e) in
      simp (ne_eqb (length f) 0 h, le-ltb 4 (length f) g, led)

-- ---- a loop over the digits of f, at index i, where the digits before have value v
module _ (f : List ℕ) (v i : ℕ) (so_far : field_value f ≡ decimal v (drop i f)) where
  pub digits_end : length f ≤ i → v ≡ field_value f
  unfolding decimal
  digits_end h =
      let none : drop i f ≡ [] = drop_of_length-le f {i = i} h in
      sym (so_far ∙ rw none)

  module _ (d : ℕ) (h : i < length f) (e : d ≡ digit_value (get_or f i 0)) where
    pub digits_break : 10 ≤ d → no_number ≡ field_value f
    unfolding decimal
    digits_break g = sym (so_far ∙ rw (drop-cons f i 0 h, ← e, le-leb 10 d g))

    pub digits_more : d < 10 → field_value f ≡ decimal (v * 10 + d) (drop (i + 1) f)
    unfolding decimal
    digits_more g = so_far ∙ rw (drop-cons f i 0 h, ← e, lt-leb 10 d g, add-one i)

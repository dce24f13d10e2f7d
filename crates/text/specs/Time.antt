-- Document 02, Four: "Exports write arrive and depart as `hh:mm`, 00:00 to 47:59, two digits each side; the plain
-- minute is dropped there. .. Minutes above 59 or hours above 47 give 3, another form 2."
use Rattle.std.specs.Prelude.{◌≡◌, Bool, cond, ◌&&◌, List, [], ◌∷◌, ℕ, ◌+◌, ◌*◌, ◌≤◌, ◌<◌, leb, eqb, length, get_or}
use Rattle.std.proofs.Common.{◌∙◌, arith}
use Rattle.std.proofs.Math.Bool.{true, false}
use borrow.Author.Tests.{eq-eqb, ne_eqb, le-leb, lt-leb}
use Rattle.text.specs.Number.{empty_field, no_number, is_number, digit_value, decimal}

-- a time of good form that is out of range has the value of the first minute after the two days, which no range has
abbrev pub past_times : ℕ
past_times = 2880

-- the number of two digits
unfoldable pub pair_value : (tens ones : ℕ) → ℕ
pair_value tens ones = decimal 0 (tens ∷ ones ∷ [])

-- two digits, a colon (byte 58), two digits
unfoldable pub is_time : List ℕ → Bool
is_time f =
    eqb (length f) 5
    && eqb (get_or f 2 0) 58
    && is_number (pair_value (get_or f 0 0) (get_or f 1 0))
    && is_number (pair_value (get_or f 3 0) (get_or f 4 0))

-- the minute from midnight
unfoldable pub minute_of : (hours minutes : ℕ) → ℕ
minute_of hours minutes = cond (leb hours 47 && leb minutes 59) (hours * 60 + minutes) past_times

-- the minute that a field's bytes spell
unfoldable pub time_value : List ℕ → ℕ
time_value f =
    cond (eqb (length f) 0) empty_field
    (cond (is_time f)
    (minute_of (pair_value (get_or f 0 0) (get_or f 1 0)) (pair_value (get_or f 3 0) (get_or f 4 0)))
    no_number)

-- ---- the number of two digits, from their values
module _ (tens ones high : ℕ) (h : high ≡ digit_value tens) where
  pub pair_first : 10 ≤ high → no_number ≡ pair_value tens ones
  unfolding pair_value decimal
  pair_first g = rw (← h, le-leb 10 high (omega arith))

  module _ (low : ℕ) (l : low ≡ digit_value ones) (d : high < 10) where
    pub pair_second : 10 ≤ low → no_number ≡ pair_value tens ones
    unfolding pair_value decimal
    pair_second g = rw (← h, ← l, lt-leb 10 high (omega arith), le-leb 10 low g)

    pub pair_number : low < 10 → high * 10 + low ≡ pair_value tens ones
    unfolding pair_value decimal
    pair_number g = rw (← h, ← l, lt-leb 10 high (omega arith), lt-leb 10 low g) (omega arith)

-- ---- the ways in which a field is no time in range, and the one in which it is
module _ (f : List ℕ) where
  pub time_empty : length f ≡ 0 → empty_field ≡ time_value f
  unfolding time_value
  time_empty h = rw h

  module _ (some : length f ≡ 0 → ⊥) where
    by_form : (form : Bool) → is_time f ≡ form → time_value f
        ≡ cond form (minute_of (pair_value (get_or f 0 0) (get_or f 1 0)) (pair_value (get_or f 3 0) (get_or f 4 0)))
        no_number
    unfolding time_value
    by_form form e = rw (ne_eqb (length f) 0 some, e)

    pub time_length : (length f ≡ 5 → ⊥) → no_number ≡ time_value f
    unfolding is_time
    time_length n = rw (by_form false (simp (ne_eqb (length f) 5 (λ e. omega arith))))

    module _ (whole : length f ≡ 5) where
      five : eqb (length f) 5 ≡ true
      five = eq-eqb (length f) 5 (omega arith)

      pub time_colon : (get_or f 2 0 ≡ 58 → ⊥) → no_number ≡ time_value f
      unfolding is_time
      time_colon n = rw (by_form false (simp (ne_eqb (get_or f 2 0) 58 n, five)))

      module _ (colon : get_or f 2 0 ≡ 58) (hours : ℕ) (h : hours ≡ pair_value (get_or f 0 0) (get_or f 1 0)) where
        pub time_hours : 9999 < hours → no_number ≡ time_value f
        unfolding is_time
        time_hours g = rw (by_form false (simp (five, colon, ← h, lt-leb hours 9999 g)))

        module _ (digits : hours ≤ 9999) (minutes : ℕ) (m : minutes ≡ pair_value (get_or f 3 0) (get_or f 4 0)) where
          pub time_minutes : 9999 < minutes → no_number ≡ time_value f
          unfolding is_time
          time_minutes g =
              rw (by_form false (simp (five, colon, ← h, ← m, le-leb hours 9999 digits, lt-leb minutes 9999 g)))

          module _ (both : minutes ≤ 9999) where
            formed : time_value f ≡ minute_of hours minutes
            unfolding is_time
            formed =
                by_form true (simp (five, colon, ← h, ← m, le-leb hours 9999 digits, le-leb minutes 9999 both))
                ∙ rw (← h, ← m)

            pub time_past_hours : 47 < hours → past_times ≡ time_value f
            unfolding minute_of
            time_past_hours g = rw (formed, lt-leb hours 47 (omega arith))

            module _ (day : hours ≤ 47) where
              pub time_past_minutes : 59 < minutes → past_times ≡ time_value f
              unfolding minute_of
              time_past_minutes g = rw (formed, le-leb hours 47 (omega arith), lt-leb minutes 59 (omega arith))

              pub time_minute : minutes ≤ 59 → hours * 60 + minutes ≡ time_value f
              unfolding minute_of
              time_minute g = rw (formed, le-leb hours 47 (omega arith), le-leb minutes 59 (omega arith))

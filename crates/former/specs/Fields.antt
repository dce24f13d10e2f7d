-- A field and its old equivalent have one value, each by its reader; the equivalent is never longer, and holds no mark
-- that the field does not hold. No field is a time in both forms.
use Rattle.std.specs.Prelude.{◌≡◌, refl, Bool, true, false, cond, ◌&&◌, ◌||◌, List, [], ◌∷◌, ℕ, zero, suc, ◌+◌, ◌*◌}
use Rattle.std.specs.Prelude.{◌≤◌, ◌<◌, leb, eqb, length, get_or}
use Rattle.std.proofs.Common.{ap, ◌∙◌, add-zero, arith, leb-true, eqb-true, ne_eqb, le-leb}
use Rattle.std.proofs.lemmas.Bool.{false≢true, eqb-false}
use Rattle.lists.specs.Tests.{and_left, and_right}
use Rattle.text.specs.Piece.{marked_length}
use Rattle.text.specs.Number.{empty_field, no_number, is_number, digit_value, decimal, field_value, value_long}
use Rattle.text.specs.Time.{pair_value, is_time, minute_of, time_value}
use Rattle.accepted.specs.Marks.{Free, AllFree, free_above, above_lower}
use Rattle.accepted.specs.Digits.{digits, digits_value, digits_above, four_bytes}
use Rattle.former.specs.Former.{plain, former_field, former_at, former_fields}

-- ---- the ways in which a field has its value as a time
pub data Timed (f : List ℕ) : Type 0 where
  Empty : length f ≡ 0 → time_value f ≡ empty_field → Timed f
  Time : length f ≡ 5 → time_value f ≤ 9999 → Timed f
  Other : 0 < length f → time_value f ≡ no_number → Timed f

minute_bound : (h m : ℕ) → minute_of h m ≤ 9999
unfolding minute_of
minute_bound h m = go (leb h 47 && leb m 59) refl
  where
    go : (t : Bool) → leb h 47 && leb m 59 ≡ t → cond t (h * 60 + m) 2880 ≤ 9999
    go true e =
        let hours = leb-true h 47 (and_left (leb h 47) (leb m 59) e) in
        let minutes = leb-true m 59 (and_right (leb h 47) (leb m 59) e) in
        omega arith
    go false e = omega arith

time_five : (f : List ℕ) → is_time f ≡ true → length f ≡ 5
unfolding is_time
time_five f e = search (and_left, and_right, eqb-true)

pub timed : (f : List ℕ) → Timed f
unfolding time_value
timed f = go (eqb (length f) 0) (is_time f) refl refl
  where
    go : (none form : Bool) → eqb (length f) 0 ≡ none → is_time f ≡ form → Timed f
    go true form e i = Empty (eqb-true (length f) 0 e) (rw e)
    go false true e i =
        let five : length f ≡ 5 = time_five f i in
        let hours = pair_value (get_or f 0 0) (get_or f 1 0) in
        let minutes = pair_value (get_or f 3 0) (get_or f 4 0) in
        let is : time_value f ≡ minute_of hours minutes = rw (e, i) in
        Time five (rw is (minute_bound hours minutes))
    go false false e i = Other (let n = eqb-false (length f) 0 e in omega arith) (rw (e, i))

-- ---- the value stays
empty_field_lem : field_value [] ≡ empty_field
unfolding field_value
empty_field_lem = refl

colon_field : field_value (58 ∷ []) ≡ no_number
unfolding field_value decimal digit_value
colon_field = refl

plain_empty : (v : ℕ) → v ≡ empty_field → plain v ≡ []
unfolding plain
plain_empty v e = rw e

plain_number : (v : ℕ) → v ≤ 9999 → plain v ≡ digits v
unfolding plain
plain_number v h = simp (ne_eqb v 10000 (λ e. omega arith), le-leb v 9999 h)

plain_other : (v : ℕ) → v ≡ no_number → plain v ≡ 58 ∷ []
unfolding plain
plain_other v e = rw e

-- the old equivalent of a field, by what the field is
pub value_stays : (f : List ℕ) → field_value (former_field f) ≡ time_value f
unfolding former_field
value_stays f = go (timed f)
  where
    go : Timed f → field_value (plain (time_value f)) ≡ time_value f
    go (Empty n e) = rw (plain_empty (time_value f) e, e) empty_field_lem
    go (Time n h) = ap field_value (plain_number (time_value f) h) ∙ digits_value (time_value f) h
    go (Other n e) = rw (plain_other (time_value f) e, e) colon_field

-- ---- it is never longer
pub field_shorter : (f : List ℕ) → length (former_field f) ≤ length f
unfolding former_field
field_shorter f = go (timed f)
  where
    go : Timed f → length (plain (time_value f)) ≤ length f
    go (Empty n e) = omega (arith, ap length (plain_empty (time_value f) e))
    go (Time n h) = omega (arith, ap length (plain_number (time_value f) h), four_bytes (time_value f) h)
    go (Other n e) = omega (arith, ap length (plain_other (time_value f) e))

-- ---- it holds no mark
pub field_free : (mark : ℕ) (f : List ℕ) → mark ≤ 44 → Free mark (former_field f)
unfolding former_field
field_free mark f low = go (timed f)
  where
    go : Timed f → Free mark (plain (time_value f))
    go (Empty n e) = rw (plain_empty (time_value f) e) tt
    go (Time n h) =
        rw (plain_number (time_value f) h)
        (free_above mark (digits (time_value f)) (above_lower mark 44 (digits (time_value f)) low (digits_above _ h)))
    go (Other n e) = rw (plain_other (time_value f) e) ((λ m. omega arith), tt)

-- ---- a line's fields
pub length_former : (k : ℕ) (l : List (List ℕ)) → length (former_fields k l) ≡ length l
unfolding former_fields
length_former k [] = refl
length_former k (f ∷ l) = omega (arith, length_former (suc k) l)

pub field_former : (k i : ℕ) (l : List (List ℕ)) → i < length l
    → get_or (former_fields k l) i [] ≡ former_at (k + i) (get_or l i [])
unfolding former_fields
field_former k i [] h = absurd (omega arith)
field_former k zero (f ∷ l) h = rw (add-zero k)
field_former k (suc i) (f ∷ l) h =
    let same : suc k + i ≡ k + suc i = omega arith in
    field_former (suc k) i l (omega arith) ∙ ap (λ n. former_at n (get_or l i [])) same

at_shorter : (k : ℕ) (f : List ℕ) → length (former_at k f) ≤ length f
unfolding former_at
at_shorter k f = go (eqb k 3 || eqb k 4)
  where
    go : (t : Bool) → length (cond t (former_field f) f) ≤ length f
    go true = field_shorter f
    go false = omega arith

pub fields_shorter : (k : ℕ) (l : List (List ℕ)) → marked_length (former_fields k l) ≤ marked_length l
unfolding former_fields
fields_shorter k [] = omega arith
fields_shorter k (f ∷ l) = omega (arith, at_shorter k f, fields_shorter (suc k) l)

at_free : (mark k : ℕ) (f : List ℕ) → mark ≤ 44 → Free mark f → Free mark (former_at k f)
unfolding former_at
at_free mark k f low free = go (eqb k 3 || eqb k 4)
  where
    go : (t : Bool) → Free mark (cond t (former_field f) f)
    go true = field_free mark f low
    go false = free

pub fields_free : (mark k : ℕ) (l : List (List ℕ)) → mark ≤ 44 → AllFree mark l → AllFree mark (former_fields k l)
unfolding former_fields
fields_free mark k [] low free = tt
fields_free mark k (f ∷ l) low free =
    (at_free mark k f low free.0, fields_free mark (suc k) l low free.1)

-- ---- no field is a time in both forms: `hh:mm` has five bytes, a number has at most four
pub one_form : (f : List ℕ) → is_number (time_value f) ≡ true → is_number (field_value f) ≡ true → ⊥
one_form f now then = go (timed f)
  where
    go : Timed f → ⊥
    go (Empty n e) = false≢true (rw e at now)
    go (Time n h) = false≢true (rw (← value_long f (λ z. omega arith) (omega arith)) at then)
    go (Other n e) = false≢true (rw e at now)

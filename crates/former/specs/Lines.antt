-- A line and its old equivalent have one shape, each by its reader, and so all lines of a text lead to one outcome. The
-- old equivalent of a text falls into the old equivalents of its lines, and is never longer.
use Rattle.std.specs.Prelude.{◌≡◌, refl, Bool, true, false, cond, ◌&&◌, List, [], ◌∷◌, ◌++◌, ℕ, zero, suc, ◌+◌, ◌≤◌}
use Rattle.std.specs.Prelude.{◌<◌, eqb, length, get_or, drop}
use Rattle.std.proofs.Common.{sym, ap, ◌∙◌, arith, eqb-true, length-append, length-drop}
use Rattle.std.proofs.lemmas.Bool.{false≢true, eqb-false}
use Rattle.lists.specs.Tests.{and_right}
use Rattle.text.specs.Piece.{pieces, joined, marked_length, pieces_length, pieces_some}
use Rattle.text.specs.Number.{field_value}
use Rattle.text.specs.Time.{time_value}
use Rattle.text_shapes.specs.Shape.{field, stop_shape, shape_by}
use Rattle.reading_lines.specs.Draft.{Draft, line_number, with_line}
use Rattle.reading.specs.Reading.{Refused, read_under, read_by}
use Rattle.accepted.specs.Marks.{fielded, Free, AllFree, one_piece, piece_before, pieces_fielded}
use Rattle.former.specs.Former.{former_at, former_fields, former_line, former_lines}
use Rattle.former.specs.Fields.{value_stays, length_former, field_former, fields_shorter, fields_free}

-- ---- pieces hold no mark, nor what the text does not hold
pub pieces_free : (mark : ℕ) (s : List ℕ) → AllFree mark (pieces mark s)
unfolding pieces
pieces_free mark [] = (tt, tt)
pieces_free mark (b ∷ s) = by_test (eqb b mark) refl (pieces mark s) (pieces_free mark s)
  where
    by_test : (t : Bool) → eqb b mark ≡ t → (l : List (List ℕ)) → AllFree mark l
        → AllFree mark (cond t ([] ∷ l) (joined b l))
    by_test true e l free = (tt, free)
    by_test false e [] free = ((eqb-false b mark e, tt), tt)
    by_test false e (p ∷ l) free = ((eqb-false b mark e, free.0), free.1)

pieces_keep : (other mark : ℕ) (s : List ℕ) → Free other s → AllFree other (pieces mark s)
unfolding pieces
pieces_keep other mark [] free = (tt, tt)
pieces_keep other mark (b ∷ s) free =
    by_test (eqb b mark) (pieces mark s) (pieces_keep other mark s free.1)
  where
    by_test : (t : Bool) (l : List (List ℕ)) → AllFree other l → AllFree other (cond t ([] ∷ l) (joined b l))
    by_test true l rest = (tt, rest)
    by_test false [] rest = ((free.0, tt), tt)
    by_test false (p ∷ l) rest = ((free.0, rest.0), rest.1)

free_drop : (mark n : ℕ) (s : List ℕ) → Free mark s → Free mark (drop n s)
free_drop mark zero s free = free
free_drop mark (suc n) [] free = tt
free_drop mark (suc n) (b ∷ s) free = free_drop mark n s free.1

free_append : (mark : ℕ) (s t : List ℕ) → Free mark s → Free mark t → Free mark (s ++ t)
free_append mark [] t x y = y
free_append mark (b ∷ s) t x y = (x.0, free_append mark s t x.1 y)

free_fielded : (l : List (List ℕ)) → AllFree 10 l → Free 10 (fielded l)
unfolding fielded
free_fielded [] free = tt
free_fielded (f ∷ []) free = free.0
free_fielded (f ∷ g ∷ l) free =
    free_append 10 f (44 ∷ fielded (g ∷ l)) free.0 ((λ e. omega arith), free_fielded (g ∷ l) free.1)

pub some_pieces : (mark : ℕ) (s : List ℕ) → 0 < length (pieces mark s)
some_pieces mark s = let p = pieces_some mark s in rw p.2 (omega arith)

-- ---- a line that begins with `T,`, and any other
-- the fields behind `T,`, and their old equivalents
abbrev stop_fields : List ℕ → List (List ℕ)
stop_fields line = pieces 44 (drop 2 line)

abbrev former_of : List ℕ → List (List ℕ)
former_of line = former_fields 0 (stop_fields line)

former_some : (line : List ℕ) → 0 < length (former_of line)
former_some line = omega (arith, length_former 0 (stop_fields line), some_pieces 44 (drop 2 line))

former_pieces : (line : List ℕ) → pieces 44 (fielded (former_of line)) ≡ former_of line
former_pieces line =
    go (former_of line) (former_some line)
    (fields_free 44 0 (stop_fields line) (omega arith) (pieces_free 44 (drop 2 line)))
  where
    go : (l : List (List ℕ)) → 0 < length l → AllFree 44 l → pieces 44 (fielded l) ≡ l
    go [] some free = absurd (omega arith)
    go (f ∷ l) some free = pieces_fielded f l free

-- ---- the shape stays
fields_shape : (f : List (List ℕ)) → stop_shape field_value (former_fields 0 f) ≡ stop_shape time_value f
unfolding stop_shape former_at
fields_shape f = go (eqb (length f) 7) refl
  where
    same_length : eqb (length (former_fields 0 f)) 7 ≡ eqb (length f) 7
    same_length = ap (λ n. eqb n 7) (length_former 0 f)

    go : (seven : Bool) → eqb (length f) 7 ≡ seven → stop_shape field_value (former_fields 0 f) ≡ stop_shape time_value
        f
    go false e = rw (same_length, e)
    go true e =
        let seven : length f ≡ 7 = eqb-true (length f) 7 e in
        let at : (i : ℕ) → i < 7 → field (former_fields 0 f) i ≡ former_at (0 + i) (field f i) =
        (λ i h. field_former 0 i f (omega arith)) in
        rw (same_length, e, at 0 (omega arith), at 1 (omega arith), at 2 (omega arith), at 3 (omega arith))
        (rw (
          at 4 (omega arith),
          at 5 (omega arith),
          at 6 (omega arith),
          value_stays (field f 3),
          value_stays (field f 4),
        ))

abbrev is_stop : List ℕ → Bool
is_stop line = eqb (get_or line 0 0) 84 && eqb (get_or line 1 0) 44

stop_line_lem : (line : List ℕ) → is_stop line ≡ true → former_line line ≡ 84 ∷ 44 ∷ fielded (former_of line)
unfolding former_line
stop_line_lem line e = rw e

other_line : (line : List ℕ) → is_stop line ≡ false → former_line line ≡ line
unfolding former_line
other_line line e = rw e

stop_shape_lem : (line : List ℕ)
    → shape_by field_value (84 ∷ 44 ∷ fielded (former_of line)) ≡ stop_shape time_value (stop_fields line)
unfolding shape_by
stop_shape_lem line = rw (former_pieces line) (fields_shape (stop_fields line))

pub shape_stays : (line : List ℕ) → shape_by field_value (former_line line) ≡ shape_by time_value line
unfolding shape_by
shape_stays line = go (eqb (get_or line 0 0) 84) (eqb (get_or line 1 0) 44) refl refl
  where
    go : (stop comma : Bool) → eqb (get_or line 0 0) 84 ≡ stop → eqb (get_or line 1 0) 44 ≡ comma
        → shape_by field_value (former_line line) ≡ shape_by time_value line
    go true true e c =
        let kind : get_or line 0 0 ≡ 84 = eqb-true (get_or line 0 0) 84 e in
        ap (shape_by field_value) (stop_line_lem line (rw (e, c)))
        ∙ stop_shape_lem line
        ∙ rw (c, kind)
    go true false e c = ap (shape_by field_value) (other_line line (rw (e, c))) ∙ rw c
    go false comma e c = ap (shape_by field_value) (other_line line (rw e)) ∙ rw e

-- ---- the bytes of a line
fielded_free : (line : List ℕ) → Free 10 line → Free 10 (fielded (former_of line))
fielded_free line free =
    let fields = pieces_keep 10 44 (drop 2 line) (free_drop 10 2 line free) in
    free_fielded (former_of line) (fields_free 10 0 (stop_fields line) (omega arith) fields)

line_free : (line : List ℕ) → Free 10 line → Free 10 (former_line line)
line_free line free = go (is_stop line) refl
  where
    go : (stop : Bool) → is_stop line ≡ stop → Free 10 (former_line line)
    go true e = rw (stop_line_lem line e) ((λ n. omega arith), ((λ n. omega arith), fielded_free line free))
    go false e = rw (other_line line e) free

length_fielded : (l : List (List ℕ)) → 0 < length l → length (fielded l) + 1 ≡ marked_length l
unfolding fielded
length_fielded [] some = absurd (omega arith)
length_fielded (f ∷ []) some = omega arith
length_fielded (f ∷ g ∷ l) some =
    omega (arith, length-append f (44 ∷ fielded (g ∷ l)), length_fielded (g ∷ l) (omega arith))

-- a line of no byte has no comma in its second place
two_bytes : (line : List ℕ) → is_stop line ≡ true → 2 ≤ length line
two_bytes [] e = absurd (false≢true e)
two_bytes (b ∷ []) e = absurd (false≢true (and_right (eqb b 84) false e))
two_bytes (b ∷ c ∷ s) e = omega arith

line_shorter : (line : List ℕ) → length (former_line line) ≤ length line
line_shorter line = go (is_stop line) refl
  where
    go : (stop : Bool) → is_stop line ≡ stop → length (former_line line) ≤ length line
    go true e =
        rw (stop_line_lem line e)
        (omega (
          arith,
          two_bytes line e,
          length_fielded (former_of line) (former_some line),
          fields_shorter 0 (stop_fields line),
          pieces_length 44 (drop 2 line),
          length-drop 2 line,
        ))
    go false e = rw (other_line line e) (omega arith)

-- ---- all lines
pub lines_shorter : (l : List (List ℕ)) → 0 < length l → length (former_lines l) + 1 ≤ marked_length l
unfolding former_lines
lines_shorter [] some = absurd (omega arith)
lines_shorter (s ∷ []) some = omega arith
lines_shorter (s ∷ u ∷ l) some =
    omega (
      arith,
      length-append (former_line s) (10 ∷ former_lines (u ∷ l)),
      line_shorter s,
      lines_shorter (u ∷ l) (omega arith),
    )

-- a line of several, whatever reads the times
read_step : (time : List ℕ → ℕ) (d : Draft) (k : ℕ) (s : List ℕ) (rest : List (List ℕ)) → 0 < length rest
    → read_by time d k (s ∷ rest)
    ≡ cond (eqb (line_number d (shape_by time s)) 0) (read_by time (with_line d (shape_by time s)) (k + 1) rest)
    (Refused (line_number d (shape_by time s)) k)
unfolding read_under
read_step time d k s [] some = absurd (omega arith)
read_step time d k s (u ∷ l) some = refl

one_left : (d : Draft) (k : ℕ) (s : List ℕ) → read_by field_value d k (s ∷ []) ≡ read_by time_value d k (s ∷ [])
unfolding read_under
one_left d k s = refl

pub outcome_stays : (d : Draft) (k : ℕ) (l : List (List ℕ)) → 0 < length l → AllFree 10 l
    → read_by field_value d k (pieces 10 (former_lines l)) ≡ read_by time_value d k l
unfolding former_lines
outcome_stays d k [] some free = absurd (omega arith)
outcome_stays d k (s ∷ []) some free = ap (read_by field_value d k) (one_piece 10 s free.0) ∙ one_left d k s
outcome_stays d k (s ∷ u ∷ l) some free =
    let rest = pieces 10 (former_lines (u ∷ l)) in
    let apart : pieces 10 (former_line s ++ 10 ∷ former_lines (u ∷ l)) ≡ former_line s ∷ rest =
    piece_before 10 (former_line s) (former_lines (u ∷ l)) (line_free s free.0) in
    let then : read_by field_value (with_line d (shape_by time_value s)) (k + 1) rest
    ≡ read_by time_value (with_line d (shape_by time_value s)) (k + 1) (u ∷ l) =
    outcome_stays (with_line d (shape_by time_value s)) (k + 1) (u ∷ l) (omega arith) free.1 in
    ap (read_by field_value d k) apart
    ∙ read_step field_value d k (former_line s) rest (some_pieces 10 (former_lines (u ∷ l)))
    ∙ (rw (shape_stays s, then))
    ∙ sym (read_step time_value d k s (u ∷ l) (omega arith))

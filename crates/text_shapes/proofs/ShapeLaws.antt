-- The ways out of `shape`. The fields are read from the part of the line behind its first two bytes, and their values
-- stand in a local array, of which as many words count as there are fields, eight at most.
use mathlib.Core.Path.{◌≡◌, refl, sym, ap, ◌∙◌}
use mathlib.Core.List.{List}
use Prim.Native.Nat.{ℕ, ◌-◌, ◌≤◌, ◌<◌, min}
use native.Mathlib.Nat.{zero-add}
use native.Mathlib.Omega.{arith}
use borrow.Author.Tests.{eq-eqb, ne_eqb}
use lib.ListN.{length, take, drop, get_or, length-drop, get_or-eq_default}
use lib.Seq.{take_all}
use Rattle.words.specs.Put.{put, get_d_put}
use Rattle.text.specs.Piece.{pieces}
use Rattle.text.specs.Number.{field_value}
use Rattle.text.specs.Time.{time_value}
use Rattle.text_shapes.specs.Values.{value_at, line_values, length_values, values_at}
use Rattle.text_shapes.specs.Values.{value_other_kind, value_arrive, value_depart, value_other_field}
use Rattle.text_shapes.specs.Shape.{
  station_of,
  walk_of,
  stop_of,
  station_shape,
  walk_shape,
  field,
  stop_shape,
  shape_by,
  shape_of,
}
use Rattle.text_shapes.specs.declared.Line.{Line}
use Rattle.text_shapes.specs.declared.Line.TheVariants.{Shapeless}

pub too_short : (line : List ℕ) → length line < 2 → Shapeless ≡ shape_of line
unfolding shape_by
too_short line h = simp (get_or-eq_default line 0 {n = 1} (omega arith))

pub no_comma : (line : List ℕ) → (get_or line 1 0 ≡ 44 → ⊥) → Shapeless ≡ shape_of line
unfolding shape_by
no_comma line h = simp (ne_eqb (get_or line 1 0) 44 h)

abbrev pub behind : List ℕ → List ℕ
behind line = take (length line - 2) (drop 2 line)

pub behind_is : (line : List ℕ) → behind line ≡ drop 2 line
behind_is line = take_all (length line - 2) (drop 2 line) (omega (arith, length-drop 2 line))

module _ (line values old : List ℕ) (count : ℕ)
    (comma : get_or line 1 0 ≡ 44)
    (counted : count ≡ min 8 (length (line_values (get_or line 0 0) (behind line))))
    (held : values ≡ put 0 (take 8 (line_values (get_or line 0 0) (behind line))) old)
  where
    abbrev fields : List (List ℕ)
    fields = pieces 44 (drop 2 line)

    abbrev kind : ℕ
    kind = get_or line 0 0

    counted_fields : count ≡ min 8 (length fields)
    counted_fields = rw behind_is at (rw length_values at counted)

    -- where the line has n fields, and n is at most 7, value i of the array is that of field i
    read : (n i : ℕ) → length fields ≡ n → n ≤ 7 → i < n → get_or values i 0 ≡ value_at kind i (field fields i)
    read n i e h g =
        let long : length (line_values kind (drop 2 line)) ≡ n = length_values kind 0 fields ∙ e in
        let all : take 8 (line_values kind (drop 2 line)) ≡ line_values kind (drop 2 line) =
        take_all 8 (line_values kind (drop 2 line)) (omega arith) in
        rw (held, behind_is, all) (get_d_put (line_values kind (drop 2 line)) old i (omega arith))
        ∙ values_at kind 0 i fields (omega arith)
        ∙ ap (λ k. value_at kind k (field fields i)) (zero-add i)

    stop_kind : kind ≡ 84 → shape_of line ≡ stop_shape time_value fields
    unfolding shape_by
    stop_kind e = simp (eq-eqb (get_or line 1 0) 44 comma, e)

    station_kind : kind ≡ 83 → shape_of line ≡ station_shape fields
    unfolding shape_by
    station_kind e = simp (eq-eqb (get_or line 1 0) 44 comma, e)

    walk_kind : kind ≡ 87 → shape_of line ≡ walk_shape fields
    unfolding shape_by
    walk_kind e = simp (eq-eqb (get_or line 1 0) 44 comma, e)

    pub station_fields_lem : kind ≡ 83 → (count ≡ 3 → ⊥) → Shapeless ≡ shape_of line
    unfolding station_shape
    station_fields_lem e n =
        let other : length fields ≡ 3 → ⊥ = (λ l. n (omega (arith, counted_fields))) in
        sym (station_kind e ∙ simp (ne_eqb (length fields) 3 other))

    pub station_shape_lem : kind ≡ 83 → count ≡ 3 → (r : Line)
        → r ≡ station_of (get_or values 0 0) (get_or values 1 0) (get_or values 2 0) → r ≡ shape_of line
    unfolding station_shape
    station_shape_lem e n r h =
        let three : length fields ≡ 3 = omega (arith, counted_fields) in
        let v : (i : ℕ) → i < 3 → get_or values i 0 ≡ field_value (field fields i) =
        (λ i g.
        read 3 i three (omega arith) g ∙ sym (value_other_kind kind i (field fields i) _ refl (λ k. omega arith))) in
        h ∙ rw (station_kind e, three, v 0 (omega arith), v 1 (omega arith), v 2 (omega arith))

    pub walk_fields_lem : kind ≡ 87 → (count ≡ 4 → ⊥) → Shapeless ≡ shape_of line
    unfolding walk_shape
    walk_fields_lem e n =
        let other : length fields ≡ 4 → ⊥ = (λ l. n (omega (arith, counted_fields))) in
        sym (walk_kind e ∙ simp (ne_eqb (length fields) 4 other))

    pub walk_shape_lem : kind ≡ 87 → count ≡ 4 → (r : Line)
        → r ≡ walk_of (get_or values 0 0) (get_or values 1 0) (get_or values 2 0) (get_or values 3 0) → r ≡ shape_of
        line
    unfolding walk_shape
    walk_shape_lem e n r h =
        let four : length fields ≡ 4 = omega (arith, counted_fields) in
        let v : (i : ℕ) → i < 4 → get_or values i 0 ≡ field_value (field fields i) =
        (λ i g.
        read 4 i four (omega arith) g ∙ sym (value_other_kind kind i (field fields i) _ refl (λ k. omega arith))) in
        h ∙ rw (walk_kind e, four, v 0 (omega arith), v 1 (omega arith), v 2 (omega arith), v 3 (omega arith))

    pub stop_fields_lem : kind ≡ 84 → (count ≡ 7 → ⊥) → Shapeless ≡ shape_of line
    unfolding stop_shape
    stop_fields_lem e n =
        let other : length fields ≡ 7 → ⊥ = (λ l. n (omega (arith, counted_fields))) in
        sym (stop_kind e ∙ simp (ne_eqb (length fields) 7 other))

    pub stop_shape_lem : kind ≡ 84 → count ≡ 7 → (r : Line)
        → r ≡ stop_of (get_or values 0 0) (get_or values 1 0) (get_or values 2 0) (get_or values 3 0)
        (get_or values 4 0)
        (get_or values 5 0) (get_or values 6 0)
        → r ≡ shape_of line
    unfolding stop_shape
    stop_shape_lem e n r h =
        let seven : length fields ≡ 7 = omega (arith, counted_fields) in
        let v : (i : ℕ) → i < 7 → get_or values i 0 ≡ value_at kind i (field fields i) =
        (λ i g. read 7 i seven (omega arith) g) in
        let number : (i : ℕ) → i < 7 → (i ≡ 3 → ⊥) → (i ≡ 4 → ⊥) → get_or values i 0 ≡ field_value (field fields i) =
        (λ i g a d. v i g ∙ sym (value_other_field kind i (field fields i) _ refl e a d)) in
        let arrive : get_or values 3 0 ≡ time_value (field fields 3) =
        v 3 (omega arith) ∙ sym (value_arrive kind 3 (field fields 3) _ refl e refl) in
        let depart : get_or values 4 0 ≡ time_value (field fields 4) =
        v 4 (omega arith) ∙ sym (value_depart kind 4 (field fields 4) _ refl e refl) in
        h
        ∙ rw (
          stop_kind e,
          seven,
          number 0 (omega arith) (λ x. omega arith) (λ x. omega arith),
          number 1 (omega arith) (λ x. omega arith) (λ x. omega arith),
          number 2 (omega arith) (λ x. omega arith) (λ x. omega arith),
          arrive,
          depart,
          number 5 (omega arith) (λ x. omega arith) (λ x. omega arith),
          number 6 (omega arith) (λ x. omega arith) (λ x. omega arith),
        )

pub other_kind : (line : List ℕ) → get_or line 1 0 ≡ 44 → (get_or line 0 0 ≡ 83 → ⊥) → (get_or line 0 0 ≡ 87 → ⊥)
    → (get_or line 0 0 ≡ 84 → ⊥) → Shapeless ≡ shape_of line
unfolding shape_by
other_kind line c s w t =
    simp (
      eq-eqb (get_or line 1 0) 44 c,
      ne_eqb (get_or line 0 0) 83 s,
      ne_eqb (get_or line 0 0) 87 w,
      ne_eqb (get_or line 0 0) 84 t,
    )

-- A turn of `field_values`: of the values of all fields, k are written, and those from index `from` on are left. The
-- field at `from` ends at index `end`.
use mathlib.Core.Path.{◌≡◌, sym, ap, ◌∙◌}
use mathlib.Core.List.{List, [], ◌∷◌, ◌++◌}
use Prim.Native.Nat.{ℕ, zero, suc, ◌+◌, ◌-◌, ◌≤◌, ◌<◌, min}
use native.Mathlib.Numerals.{add-one}
use native.Mathlib.Omega.{arith}
use lib.ListN.{length, take, drop, set, length-drop}
use lib.Seq.{drop-drop, take_all, length-take-le}
use Rattle.words.specs.Put.{put, put_next}
use Rattle.text.specs.Piece.{pieces, piece_length, last_from, first_from_lem}
use Rattle.text_shapes.specs.Values.{value_at, values_from, line_values}

-- ---- lists that are taken from the front, one element at a time
pub drop_next : (l : List ℕ) (k x : ℕ) (r : List ℕ) → drop k l ≡ x ∷ r → drop (k + 1) l ≡ r
drop_next l k x r e = sym (drop-drop 1 k l) ∙ ap (drop 1) e

pub take_next : (l : List ℕ) (k x : ℕ) (r : List ℕ) → drop k l ≡ x ∷ r → take (k + 1) l ≡ take k l ++ (x ∷ [])
take_next l k x r e = rw (add-one k) (by_suc l k x r e)
  where
    by_suc : (l : List ℕ) (k x : ℕ) (r : List ℕ) → drop k l ≡ x ∷ r → take (suc k) l ≡ take k l ++ (x ∷ [])
    by_suc [] zero x r e = absurd (omega (arith, ap length e))
    by_suc [] (suc k) x r e = absurd (omega (arith, ap length e))
    by_suc (y ∷ l) zero x r e = cc
    by_suc (y ∷ l) (suc k) x r e = ap (λ s. y ∷ s) (by_suc l k x r e)

pub length_next : (l : List ℕ) (k x : ℕ) (r : List ℕ) → drop k l ≡ x ∷ r → length l ≡ k + 1 + length r
length_next l k x r e =
    let left : length l - k ≡ suc (length r) = sym (length-drop k l) ∙ ap length e in
    omega arith

-- the values of the fields from index `from` of s on, the first of which is field k
abbrev pub left_from : (kind k : ℕ) (s : List ℕ) (from : ℕ) → List ℕ
left_from kind k s from = values_from kind k (pieces 44 (drop from s))

module _
    (kind k : ℕ)
    (s : List ℕ)
    (from end : ℕ)
    (ends : end ≡ from + piece_length 44 (drop from s))
    (in-s : from ≤ length s)
  where
    abbrev pub value : ℕ
    value = value_at kind k (take (end - from) (drop from s))

    pub last_value : end ≡ length s → left_from kind k s from ≡ value ∷ []
    unfolding values_from
    last_value e = rw (last_from 44 s from end ends in-s e)

    pub first_value_lem : end ≤ length s → (end ≡ length s → ⊥)
        → left_from kind k s from ≡ value ∷ left_from kind (k + 1) s (end + 1)
    unfolding values_from
    first_value_lem h n = rw (first_from_lem 44 s from end ends in-s h n, add-one k)

-- ---- after the value x of that field is stored at index k
module _
    (s values old : List ℕ)
    (kind k from end x : ℕ)
    (left : drop k (line_values kind s) ≡ left_from kind k s from)
    (held : values ≡ put 0 (take k (line_values kind s)) old)
    (ends : end ≡ from + piece_length 44 (drop from s))
    (in-s : from ≤ length s)
    (within : end ≤ length s)
    (is-value : x ≡ value_at kind k (take (end - from) (drop from s)))
    (room : length old ≡ 8)
    (few : k < 8)
  where
    -- the values of all fields
    abbrev all : List ℕ
    all = line_values kind s

    next : (r : List ℕ) → left_from kind k s from ≡ value kind k s from end ends in-s ∷ r → drop k all ≡ x ∷ r
    next r e = rw is-value (left ∙ e)

    stored : (r : List ℕ) → drop k all ≡ x ∷ r → set values k x ≡ put 0 (take (k + 1) all) old
    stored r e =
        let long : length (take k all) ≡ k =
        length-take-le k all (omega (arith, length_next all k x r e)) in
        rw (held, take_next all k x r e) (put_next k (take k all) old x long (omega arith))

    more : (end ≡ length s → ⊥) → drop k all ≡ x ∷ left_from kind (k + 1) s (end + 1)
    more n = next (left_from kind (k + 1) s (end + 1)) (first_value_lem kind k s from end ends in-s within n)

    last : end ≡ length s → drop k all ≡ x ∷ []
    last e = next [] (last_value kind k s from end ends in-s e)

    pub last_count : end ≡ length s → k + 1 ≡ min 8 (length all)
    last_count e = omega (arith, length_next all k x [] (last e))

    pub last_stored : end ≡ length s → set values k x ≡ put 0 (take 8 all) old
    last_stored e =
        let long : length all ≡ k + 1 = omega (arith, length_next all k x [] (last e)) in
        let whole : take (k + 1) all ≡ all = take_all (k + 1) all (omega arith) in
        let eight : take 8 all ≡ all = take_all 8 all (omega arith) in
        rw eight (rw whole at (stored [] (last e)))

    pub more_long : (end ≡ length s → ⊥) → k + 1 ≤ length all
    more_long n = omega (arith, length_next all k x (left_from kind (k + 1) s (end + 1)) (more n))

    pub more_left : (end ≡ length s → ⊥) → drop (k + 1) all ≡ left_from kind (k + 1) s (end + 1)
    more_left n = drop_next all k x (left_from kind (k + 1) s (end + 1)) (more n)

    pub more_stored : (end ≡ length s → ⊥) → set values k x ≡ put 0 (take (k + 1) all) old
    more_stored n = stored (left_from kind (k + 1) s (end + 1)) (more n)

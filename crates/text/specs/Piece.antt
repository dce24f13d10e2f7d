-- The pieces of a text between the marks that part it: lines end with byte 10, "fields stand .. parted by commas,
-- without quoting". There is always a last piece, behind the last mark; it may be empty.
use Rattle.std.specs.Prelude.{◌≡◌, refl, Bool, true, false, cond, eqb, length, get_or, take}
use Rattle.std.proofs.Common.{ap, length-drop, drop-cons, drop-drop, take_all}
use mathlib.Core.List.{List, [], ◌∷◌}
use Prim.Native.Nat.{ℕ, suc, ◌+◌, ◌-◌, ◌≤◌, ◌<◌}
use Rattle.std.proofs.Math.Numerals.{add-one}
use native.Mathlib.Omega.{arith}
use borrow.Author.Tests.{eq-eqb, ne_eqb}
use Rattle.std.proofs.Math.ListN.{drop, drop_of_length-le}

abbrev pub joined : ℕ → List (List ℕ) → List (List ℕ)
joined b [] = (b ∷ []) ∷ []
joined b (p ∷ l) = (b ∷ p) ∷ l

unfoldable pub pieces : ℕ → List ℕ → List (List ℕ)
pieces mark [] = [] ∷ []
pieces mark (b ∷ s) = cond (eqb b mark) ([] ∷ pieces mark s) (joined b (pieces mark s))

-- how many bytes stand before the first mark
unfoldable pub piece_length : ℕ → List ℕ → ℕ
piece_length mark [] = 0
piece_length mark (b ∷ s) = cond (eqb b mark) 0 (suc (piece_length mark s))

-- ---- a loop over s, at index i, that looks for the mark
module _
    (mark : ℕ)
    (s : List ℕ)
    (from i : ℕ)
    (at : from + piece_length mark (drop from s) ≡ i + piece_length mark (drop i s))
  where
    pub piece_ends : i ≡ length s → i ≡ from + piece_length mark (drop from s)
    unfolding piece_length
    piece_ends e =
        let none : drop i s ≡ [] = drop_of_length-le s {i = i} (omega arith) in
        let zero-long : piece_length mark (drop i s) ≡ 0 = rw none in
        omega arith

    pub piece_found : i ≤ length s → (i ≡ length s → ⊥) → get_or s i 0 ≡ mark → i ≡ from + piece_length mark
        (drop from s)
    unfolding piece_length
    piece_found h g e =
        let zero-long : piece_length mark (drop i s) ≡ 0 =
        rw (drop-cons s i 0 (omega arith), eq-eqb (get_or s i 0) mark e) in
        omega arith

    pub piece_goes_on : i ≤ length s → (i ≡ length s → ⊥) → (get_or s i 0 ≡ mark → ⊥)
        → from + piece_length mark (drop from s) ≡ i + 1 + piece_length mark (drop (i + 1) s)
    unfolding piece_length
    piece_goes_on h g e =
        let longer : piece_length mark (drop i s) ≡ suc (piece_length mark (drop (i + 1) s)) =
        rw (drop-cons s i 0 (omega arith), ne_eqb (get_or s i 0) mark e, add-one i) in
        omega arith

-- ---- the first piece and the rest
pub last_piece : (mark : ℕ) (s : List ℕ) → piece_length mark s ≡ length s → pieces mark s ≡ s ∷ []
unfolding pieces piece_length
last_piece mark [] e = refl
last_piece mark (b ∷ s) e = by_test (eqb b mark) (last_piece mark s) e
  where
    by_test : (t : Bool) → (piece_length mark s ≡ length s → pieces mark s ≡ s ∷ [])
        → cond t 0 (suc (piece_length mark s)) ≡ suc (length s)
        → cond t ([] ∷ pieces mark s) (joined b (pieces mark s)) ≡ (b ∷ s) ∷ []
    by_test true rest e = absurd (omega arith)
    by_test false rest e = ap (joined b) (rest (omega arith))

pub first_piece : (mark : ℕ) (s : List ℕ) → piece_length mark s < length s
    → pieces mark s ≡ take (piece_length mark s) s ∷ pieces mark (drop (suc (piece_length mark s)) s)
unfolding pieces piece_length
first_piece mark [] h = absurd (omega arith)
first_piece mark (b ∷ s) h = by_test (eqb b mark) (first_piece mark s) h
  where
    by_test : (t : Bool)
        → (piece_length mark s < length s
        → pieces mark s ≡ take (piece_length mark s) s ∷ pieces mark (drop (suc (piece_length mark s)) s))
        → cond t 0 (suc (piece_length mark s)) < suc (length s)
        → cond t ([] ∷ pieces mark s) (joined b (pieces mark s))
        ≡ take (cond t 0 (suc (piece_length mark s))) (b ∷ s)
        ∷ pieces mark (drop (suc (cond t 0 (suc (piece_length mark s)))) (b ∷ s))
    by_test true rest h = refl
    by_test false rest h = ap (joined b) (rest (omega arith))

-- ---- the pieces from index `from` on, where the first of them ends at index `end`
module _
    (mark : ℕ)
    (s : List ℕ)
    (from end : ℕ)
    (ends : end ≡ from + piece_length mark (drop from s))
    (in-s : from ≤ length s)
  where
    length_left : length (drop from s) ≡ length s - from
    length_left = length-drop from s

    this_piece : end - from ≡ piece_length mark (drop from s)
    this_piece = omega arith

    pub last_from : end ≡ length s → pieces mark (drop from s) ≡ take (end - from) (drop from s) ∷ []
    last_from e =
        let whole : piece_length mark (drop from s) ≡ length (drop from s) = omega (arith, length_left) in
        let all : take (end - from) (drop from s) ≡ drop from s =
        take_all (end - from) (drop from s) (omega (arith, length_left)) in
        rw all (last_piece mark (drop from s) whole)

    pub first_from_lem : end ≤ length s → (end ≡ length s → ⊥)
        → pieces mark (drop from s) ≡ take (end - from) (drop from s) ∷ pieces mark (drop (end + 1) s)
    first_from_lem h n =
        let short : piece_length mark (drop from s) < length (drop from s) = omega (arith, length_left) in
        let next : from + suc (piece_length mark (drop from s)) ≡ end + 1 = omega arith in
        rw (
          first_piece mark (drop from s) short,
          drop-drop (suc (piece_length mark (drop from s))) from s,
          next,
          this_piece,
        )

-- there is always a piece
pub pieces_some : (mark : ℕ) (s : List ℕ) → (p : List ℕ) × (l : List (List ℕ)) × (pieces mark s ≡ p ∷ l)
unfolding pieces
pieces_some mark [] = ([], [], refl)
pieces_some mark (b ∷ s) = by_test (eqb b mark) (pieces mark s)
  where
    by_test : (t : Bool) (r : List (List ℕ))
        → (p : List ℕ) × (l : List (List ℕ)) × (cond t ([] ∷ r) (joined b r) ≡ p ∷ l)
    by_test true r = ([], r, refl)
    by_test false [] = (b ∷ [], [], refl)
    by_test false (p ∷ r) = (b ∷ p, r, refl)

-- ---- the bytes of pieces, with a mark behind each
abbrev pub marked_length : List (List ℕ) → ℕ
marked_length [] = 0
marked_length (p ∷ l) = length p + 1 + marked_length l

pub pieces_length : (mark : ℕ) (s : List ℕ) → marked_length (pieces mark s) ≡ length s + 1
unfolding pieces
pieces_length mark [] = refl
pieces_length mark (b ∷ s) = by_test (eqb b mark) (pieces mark s) (pieces_length mark s)
  where
    by_test : (t : Bool) (l : List (List ℕ)) → marked_length l ≡ length s + 1
        → marked_length (cond t ([] ∷ l) (joined b l)) ≡ length (b ∷ s) + 1
    by_test true l e = omega (arith, e)
    by_test false [] e = absurd (omega (arith, e))
    by_test false (p ∷ l) e = omega (arith, e)

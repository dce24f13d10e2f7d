-- How the code comes to the fields of a line: it puts the values of all of them in a row, each read by its place. No
-- reader of the promise needs this file.
use Rattle.std.specs.Prelude.{◌≡◌, refl, cond, ◌&&◌, ◌||◌, List, [], ◌∷◌, ℕ, zero, suc, ◌+◌, ◌<◌, eqb, length, get_or}
use Rattle.std.proofs.Common.{ap, ◌∙◌, add-zero, arith}
use borrow.Author.Tests.{ne_eqb, eq-eqb}
use Rattle.text.specs.Piece.{pieces}
use Rattle.text.specs.Number.{field_value}
use Rattle.text.specs.Time.{time_value}

-- the value of field k behind the first of a line that begins with byte `kind`: arrive (3) and depart (4) of a stop
-- line (84) are times
unfoldable pub value_at : (kind k : ℕ) → List ℕ → ℕ
value_at kind k f = cond (eqb kind 84 && (eqb k 3 || eqb k 4)) (time_value f) (field_value f)

-- the values of the fields from field k on
unfoldable pub values_from : (kind k : ℕ) → List (List ℕ) → List ℕ
values_from kind k [] = []
values_from kind k (f ∷ l) = value_at kind k f ∷ values_from kind (suc k) l

abbrev pub line_values : (kind : ℕ) → List ℕ → List ℕ
line_values kind s = values_from kind 0 (pieces 44 s)

pub length_values : (kind k : ℕ) (l : List (List ℕ)) → length (values_from kind k l) ≡ length l
unfolding values_from
length_values kind k [] = refl
length_values kind k (f ∷ l) = omega (arith, length_values kind (suc k) l)

pub values_at : (kind k i : ℕ) (l : List (List ℕ)) → i < length l
    → get_or (values_from kind k l) i 0 ≡ value_at kind (k + i) (get_or l i [])
unfolding values_from
values_at kind k i [] h = absurd (omega arith)
values_at kind k zero (f ∷ l) h = rw (add-zero k)
values_at kind k (suc i) (f ∷ l) h =
    let same : suc k + i ≡ k + suc i = omega arith in
    values_at kind (suc k) i l (omega arith) ∙ ap (λ n. value_at kind n (get_or l i [])) same

-- ---- a value r, by what is tested of its place
module _ (kind k : ℕ) (f : List ℕ) (r : ℕ) where
  module _ (n : r ≡ field_value f) where
    pub value_other_kind : (kind ≡ 84 → ⊥) → r ≡ value_at kind k f
    unfolding value_at
    value_other_kind o = rw (n, ne_eqb kind 84 o)

    pub value_other_field : kind ≡ 84 → (k ≡ 3 → ⊥) → (k ≡ 4 → ⊥) → r ≡ value_at kind k f
    unfolding value_at
    value_other_field e a d = simp (n, eq-eqb kind 84 e, ne_eqb k 3 a, ne_eqb k 4 d)

  module _ (t : r ≡ time_value f) (e : kind ≡ 84) where
    pub value_arrive : k ≡ 3 → r ≡ value_at kind k f
    unfolding value_at
    value_arrive p = simp (t, e, p)

    pub value_depart : k ≡ 4 → r ≡ value_at kind k f
    unfolding value_at
    value_depart p = simp (t, e, p)

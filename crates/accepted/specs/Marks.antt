-- Bytes that stand above a mark hold no mark, so a text that is put together from such bytes and marks falls into the
-- same pieces again. "Each line ends with byte 10"; fields are "parted by commas" (byte 44).
use Rattle.std.specs.Prelude.{◌≡◌, refl, Bool, true, ◌&&◌, List, [], ◌∷◌, ◌++◌, ℕ, ◌≤◌, ◌<◌, ltb}
use Rattle.std.proofs.Common.{ap, ◌∙◌, arith, ltb-true, lt-ltb, ne_eqb, eq-eqb}
use Rattle.words.specs.Below.{Below, below_append}
use Rattle.lists.specs.Tests.{and_left, and_right, and_both}
use Rattle.text.specs.Piece.{pieces, joined}

-- each is a byte, and above the mark
unfoldable pub above : ℕ → List ℕ → Bool
above mark [] = true
above mark (b ∷ s) = ltb mark b && ltb b 256 && above mark s

unfoldable pub all_above : ℕ → List (List ℕ) → Bool
all_above mark [] = true
all_above mark (s ∷ l) = above mark s && all_above mark l

-- the lines given, each with its byte 10
unfoldable pub lined : List (List ℕ) → List ℕ
lined [] = []
lined (s ∷ l) = s ++ 10 ∷ lined l

-- the fields given, commas between them
unfoldable pub fielded : List (List ℕ) → List ℕ
fielded [] = []
fielded (f ∷ []) = f
fielded (f ∷ g ∷ l) = f ++ 44 ∷ fielded (g ∷ l)

-- ---- above a mark
module _ (mark b : ℕ) (s : List ℕ) (e : above mark (b ∷ s) ≡ true) where
  above_first : mark < b
  unfolding above
  above_first = search (and_left, and_right, ltb-true)

  byte_first : b < 256
  unfolding above
  byte_first = search (and_left, and_right, ltb-true)

  above_rest : above mark s ≡ true
  unfolding above
  above_rest = search (and_right)

above_more : (mark b : ℕ) (s : List ℕ) → mark < b → b < 256 → above mark s ≡ true → above mark (b ∷ s) ≡ true
unfolding above
above_more mark b s h g e = search (and_both, lt-ltb)

pub above_append : (mark : ℕ) (s t : List ℕ) → above mark s ≡ true → above mark t ≡ true → above mark (s ++ t) ≡ true
above_append mark [] t e f = f
above_append mark (b ∷ s) t e f =
    above_more mark b (s ++ t) (above_first mark b s e) (byte_first mark b s e)
    (above_append mark s t (above_rest mark b s e) f)

pub above_lower : (low high : ℕ) (s : List ℕ) → low ≤ high → above high s ≡ true → above low s ≡ true
unfolding above
above_lower low high [] h e = refl
above_lower low high (b ∷ s) h e =
    above_more low b s (omega (arith, above_first high b s e)) (byte_first high b s e)
    (above_lower low high s h (above_rest high b s e))

above_bytes : (mark : ℕ) (s : List ℕ) → above mark s ≡ true → Below 256 s
unfolding Below
above_bytes mark [] e = tt
above_bytes mark (b ∷ s) e = (byte_first mark b s e, above_bytes mark s (above_rest mark b s e))

-- commas stand above 10, and so does a line whose fields do
pub above_fielded : (l : List (List ℕ)) → all_above 44 l ≡ true → above 10 (fielded l) ≡ true
unfolding above all_above fielded
above_fielded [] e = refl
above_fielded (f ∷ []) e = above_lower 10 44 f (omega arith) (and_left (above 44 f) true e)
above_fielded (f ∷ g ∷ l) e =
    above_append 10 f (44 ∷ fielded (g ∷ l))
    (above_lower 10 44 f (omega arith) (and_left (above 44 f) (all_above 44 (g ∷ l)) e))
    (above_fielded (g ∷ l) (and_right (above 44 f) (all_above 44 (g ∷ l)) e))

-- ---- no byte is the mark
abbrev pub Free : ℕ → List ℕ → Type 0
Free mark [] = Unit {0}
Free mark (b ∷ s) = (b ≡ mark → ⊥) × Free mark s

abbrev pub AllFree : ℕ → List (List ℕ) → Type 0
AllFree mark [] = Unit {0}
AllFree mark (s ∷ l) = Free mark s × AllFree mark l

pub free_above : (mark : ℕ) (s : List ℕ) → above mark s ≡ true → Free mark s
free_above mark [] e = tt
free_above mark (b ∷ s) e =
    ((λ same. omega (arith, above_first mark b s e)), free_above mark s (above_rest mark b s e))

pub all_free : (mark : ℕ) (l : List (List ℕ)) → all_above mark l ≡ true → AllFree mark l
unfolding all_above
all_free mark [] e = tt
all_free mark (s ∷ l) e = (
  free_above mark s (and_left (above mark s) (all_above mark l) e),
  all_free mark l (and_right (above mark s) (all_above mark l) e),
)

-- ---- the pieces
pub one_piece : (mark : ℕ) (s : List ℕ) → Free mark s → pieces mark s ≡ s ∷ []
unfolding pieces
one_piece mark [] free = refl
one_piece mark (b ∷ s) free = rw (ne_eqb b mark free.0) (ap (joined b) (one_piece mark s free.1))

pub piece_before : (mark : ℕ) (s t : List ℕ) → Free mark s → pieces mark (s ++ mark ∷ t) ≡ s ∷ pieces mark t
unfolding pieces
piece_before mark [] t free = rw (eq-eqb mark mark refl)
piece_before mark (b ∷ s) t free = rw (ne_eqb b mark free.0) (ap (joined b) (piece_before mark s t free.1))

pub bytes_lined : (l : List (List ℕ)) → all_above 10 l ≡ true → Below 256 (lined l)
unfolding all_above lined Below
bytes_lined [] e = tt
bytes_lined (s ∷ l) e =
    below_append 256 s (10 ∷ lined l) (above_bytes 10 s (and_left (above 10 s) (all_above 10 l) e))
    (omega arith, bytes_lined l (and_right (above 10 s) (all_above 10 l) e))

pub pieces_lined : (l : List (List ℕ)) → all_above 10 l ≡ true → pieces 10 (lined l) ≡ l ++ ([] ∷ [])
unfolding all_above lined pieces
pieces_lined [] e = refl
pieces_lined (s ∷ l) e =
    piece_before 10 s (lined l) (free_above 10 s (and_left (above 10 s) (all_above 10 l) e))
    ∙ ap (λ r. s ∷ r) (pieces_lined l (and_right (above 10 s) (all_above 10 l) e))

pub pieces_fielded : (f : List ℕ) (l : List (List ℕ)) → AllFree 44 (f ∷ l) → pieces 44 (fielded (f ∷ l)) ≡ f ∷ l
unfolding fielded
pieces_fielded f [] free = one_piece 44 f free.0
pieces_fielded f (g ∷ l) free =
    piece_before 44 f (fielded (g ∷ l)) free.0 ∙ ap (λ r. f ∷ r) (pieces_fielded g l free.1)

-- Where the trips of a line stand, in one number of 64 bits.
use Rattle.std.specs.Prelude.{◌≡◌, List, ℕ, ◌+◌, ◌*◌}
use Rattle.std.proofs.Common.{ap, ◌∙◌}
use Rattle.promises.specs.Packed.{packed}
use Rattle.lines_piece.specs.Piece.{piece_number, start_told, length_told}

-- where the trips of a line stand: the index of the piece in the upper half of the lower half, its length in the rest
unfoldable pub packed_place : (v : List ℕ) (n line : ℕ) → ℕ
packed_place v n line = packed (piece_number v n line) (start_told v n line * 65536 + length_told v n line)

-- working space of k words, as long as before
pub place_packed : (v : List ℕ) (n k line number start count r : ℕ) → number ≡ piece_number v n line
    → start ≡ start_told v n line → count ≡ length_told v k line → k ≡ n
    → r ≡ packed number (start * 65536 + count) → r ≡ packed_place v n line
unfolding packed_place
place_packed v n k line number start count r e f g same h =
    h ∙ (λ i. packed (e i) (f i * 65536 + (g ∙ ap (λ m. length_told v m line) same) i))

-- a refused line has no piece
pub place_refused : (v : List ℕ) (n line number k r : ℕ) → k ≡ piece_number v n line → number ≡ k
    → 0 ≡ start_told v n line → 0 ≡ length_told v n line → r ≡ packed number 0 → r ≡ packed_place v n line
unfolding packed_place
place_refused v n line number k r e same f g h =
    h ∙ (λ i. packed ((same ∙ e) i) (f i * 65536 + g i))

-- What the listing's input prints, told byte by byte: the bytes of a line are kept until byte 10 ends it, and no more
-- of them need be kept than the first 17.
use Rattle.std.specs.Prelude.{◌≡◌, Bool, not, ℕ, zero, suc, ◌+◌, ◌-◌, ◌≤◌, ◌<◌, eqb, take}
use Rattle.std.proofs.Math.Path.{refl, sym, ap}
use Rattle.std.proofs.Common.{◌∙◌, ne_eqb, drop_of_length-le, drop-cons}
use Rattle.std.proofs.Math.Bool.{true, false, cond}
use mathlib.Core.List.{List, [], ◌∷◌, ◌++◌, append-nil}
use native.Mathlib.Omega.{arith}
use Rattle.std.proofs.Math.Numerals.{add-one}
use Rattle.std.proofs.lemmas.Bool.{not-true, not-false}
use Rattle.std.proofs.Math.ListN.{length, get_or, drop}
use Rattle.std.proofs.Math.Seq.{drop-length, append_snoc}
use Rattle.words.specs.Put.{put, take_put}
use Rattle.text.specs.Piece.{joined, pieces, pieces_some}
use Rattle.listing_output.specs.Printed.{end_printed, line_printed, pieces_printed, all_printed, cut_printed}

-- bytes before the first piece belong to it
ahead : (kept : List ℕ) → List (List ℕ) → List (List ℕ)
ahead kept [] = []
ahead kept (p ∷ l) = (kept ++ p) ∷ l

take_again : (n : ℕ) (k x : List ℕ) → take n (take n k ++ x) ≡ take n (k ++ x)
take_again zero [] x = refl
take_again zero (b ∷ k) x = refl
take_again (suc n) [] x = refl
take_again (suc n) (b ∷ k) x = ap (λ l. b ∷ l) (take_again n k x)

module _ (w v : List ℕ) where
  -- what the rest of the input prints, once the first bytes of its line have been kept
  unfoldable pub printed_from : (kept input : List ℕ) → List ℕ
  printed_from kept [] = end_printed kept
  printed_from kept (b ∷ input) =
      cond (eqb b 10) (line_printed w v kept ++ printed_from [] input) (printed_from (kept ++ b ∷ []) input)

  -- ---- this is what the input prints
  ahead_none : (l : List (List ℕ)) → ahead [] l ≡ l
  unfolding ahead
  ahead_none [] = refl
  ahead_none (p ∷ l) = refl

  from_pieces : (input kept : List ℕ) → printed_from kept input ≡ pieces_printed w v (ahead kept (pieces 10 input))
  unfolding printed_from pieces_printed pieces ahead
  from_pieces [] kept = ap end_printed (sym (append-nil kept))
  from_pieces (b ∷ s) kept =
      go
      (eqb b 10)
      (pieces 10 s)
      (pieces_some 10 s)
      (from_pieces s [] ∙ ap (pieces_printed w v) (ahead_none (pieces 10 s)))
      (from_pieces s (kept ++ b ∷ []))
    where
      go : (t : Bool) (r : List (List ℕ)) → (p : List ℕ) × (l : List (List ℕ)) × (r ≡ p ∷ l)
          → printed_from [] s ≡ pieces_printed w v r
          → printed_from (kept ++ b ∷ []) s ≡ pieces_printed w v (ahead (kept ++ b ∷ []) r)
          → cond t (line_printed w v kept ++ printed_from [] s) (printed_from (kept ++ b ∷ []) s)
          ≡ pieces_printed w v (ahead kept (cond t ([] ∷ r) (joined b r)))
      go true [] some e f = absurd (omega (arith, ap length some.2))
      go true (p ∷ l) some e f =
          λ i. line_printed w v (sym (append-nil kept) i) ++ e i
      go false [] some e f = absurd (omega (arith, ap length some.2))
      go false (p ∷ l) some e f = f ∙ ap (λ k. pieces_printed w v (k ∷ l)) (append_snoc kept b p)

  -- for a reader: byte by byte, the input prints what its lines print
  pub all_printed_lem : (input : List ℕ) → printed_from [] input ≡ all_printed w v input
  unfolding all_printed
  all_printed_lem input = from_pieces input [] ∙ ap (pieces_printed w v) (ahead_none (pieces 10 input))

  -- ---- 17 bytes of a line are enough
  end_cut : (kept : List ℕ) → end_printed (take 17 kept) ≡ end_printed kept
  end_cut [] = refl
  end_cut (b ∷ kept) = refl

  from_cut : (input kept : List ℕ) → printed_from (take 17 kept) input ≡ printed_from kept input
  unfolding printed_from
  from_cut [] kept = end_cut kept
  from_cut (b ∷ s) kept = go (eqb b 10) (λ k. from_cut s k)
    where
      go : (t : Bool) → ((k : List ℕ) → printed_from (take 17 k) s ≡ printed_from k s)
          → cond t (line_printed w v (take 17 kept) ++ printed_from [] s) (printed_from (take 17 kept ++ b ∷ []) s)
          ≡ cond t (line_printed w v kept ++ printed_from [] s) (printed_from (kept ++ b ∷ []) s)
      go true cut = ap (λ l. l ++ printed_from [] s) (cut_printed w v kept)
      go false cut =
          sym (cut (take 17 kept ++ b ∷ []))
          ∙ ap (λ k. printed_from k s) (take_again 17 kept (b ∷ []))
          ∙ cut (kept ++ b ∷ [])

-- ---- Bytes of the input are taken, and nothing is printed yet: whatever follows them prints the same.
pub record Keeps (kept bytes kept' bytes' : List ℕ) : Type 0 where
  pub same : (w v rest : List ℕ) → printed_from w v kept (bytes ++ rest) ≡ printed_from w v kept' (bytes' ++ rest)

pub keeps_none : (kept bytes : List ℕ) → Keeps kept bytes kept (drop 0 bytes)
keeps_none kept bytes = record { same = λ w v rest. refl }

module _ (kept bytes now : List ℕ) (i : ℕ) (so_far : Keeps kept bytes now (drop i bytes)) where
  pub keeps_more : (next : List ℕ) → i < length bytes → (get_or bytes i 0 ≡ 10 → ⊥)
      → next ≡ take 17 (now ++ get_or bytes i 0 ∷ []) → Keeps kept bytes next (drop (i + 1) bytes)
  unfolding printed_from
  keeps_more next h other is = record { same = same }
    where
      same : (w v rest : List ℕ)
          → printed_from w v kept (bytes ++ rest) ≡ printed_from w v next (drop (i + 1) bytes ++ rest)
      same w v rest =
          so_far.same w v rest
          ∙ ap (λ s. printed_from w v now (s ++ rest)) (drop-cons bytes i 0 h)
          ∙ rw (ne_eqb (get_or bytes i 0) 10 other, add-one i, is)
          (sym (from_cut w v (drop (suc i) bytes ++ rest) (now ++ get_or bytes i 0 ∷ [])))

  pub keeps_line : i < length bytes → get_or bytes i 0 ≡ 10
      → Keeps kept bytes now (cond true (10 ∷ drop (i + 1) bytes) [])
  keeps_line h e =
      record {
        same =
            λ w v rest.
            so_far.same w v rest
            ∙ ap (λ s. printed_from w v now (s ++ rest)) (drop-cons bytes i 0 h)
            ∙ (λ j. printed_from w v now (e j ∷ drop (sym (add-one i) j) bytes ++ rest));
      }

  pub keeps_all : length bytes ≤ i → Keeps kept bytes now (cond false (10 ∷ drop i bytes) [])
  keeps_all h =
      record {
        same =
            λ w v rest.
            so_far.same w v rest
            ∙ ap (λ s. printed_from w v now (s ++ rest)) (drop_of_length-le bytes {i = i} h);
      }

-- ---- Bytes of the input are taken, and some are printed.
pub record Prints (w v kept bytes printed kept' bytes' : List ℕ) : Type 0 where
  pub goes : (rest : List ℕ)
      → printed_from w v kept (bytes ++ rest) ≡ printed ++ printed_from w v kept' (bytes' ++ rest)

-- the first n bytes of `line` are kept
module _ (w v kept bytes line : List ℕ) (n used : ℕ) (whole : Bool)
    (keeps : Keeps kept bytes (take n line) (cond whole (10 ∷ drop used bytes) [])) where
  -- they are a line, which has ended
  pub prints_line : not whole ≡ false → (out out₀ : List ℕ) (count : ℕ)
      → count ≡ length (line_printed w v (take (n - 0) line)) → out ≡ put 0 (line_printed w v (take (n - 0) line)) out₀
      → Prints w v kept bytes (take count out) [] (drop used bytes)
  unfolding printed_from
  prints_line e out out₀ count is_count is_out =
      record {
        goes =
            λ rest.
            keeps.same w v rest
            ∙ ap (λ t. printed_from w v (take n line) (cond t (10 ∷ drop used bytes) [] ++ rest)) (not-false whole e)
            ∙ ap (λ l. l ++ printed_from w v [] (drop used bytes ++ rest)) (sym printed);
      }
    where
      all : n - 0 ≡ n
      all = omega arith

      printed : take count out ≡ line_printed w v (take n line)
      printed =
          (λ i. take (is_count i) (is_out i))
          ∙ take_put (line_printed w v (take (n - 0) line)) out₀
          ∙ ap (λ k. line_printed w v (take k line)) all

  -- their line goes on: all bytes were taken
  pub prints_none : not whole ≡ true → Prints w v kept bytes [] (take n line) (drop (length bytes) bytes)
  prints_none e =
      record {
        goes =
            λ rest.
            keeps.same w v rest
            ∙ ap (λ t. printed_from w v (take n line) (cond t (10 ∷ drop used bytes) [] ++ rest)) (not-true whole e)
            ∙ ap (λ s. printed_from w v (take n line) (s ++ rest)) (sym (drop-length bytes));
      }

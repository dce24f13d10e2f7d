-- A turn of a loop that copies words of any type: what stands behind those that were put is one word more.
use Rattle.std.specs.Prelude.{◌≡◌, List, [], ◌∷◌, ◌++◌, ℕ, suc, ◌+◌, ◌≤◌, ◌<◌, length, take, drop, set, get_or}
use Rattle.std.proofs.Common.{sym, ap, ◌∙◌, append_assoc, append-nil, add-zero, add-one, arith, length-append}
use Rattle.std.proofs.Common.{length-take, take-append-drop, drop-cons, take-suc, length-take-le}
use Rattle.std.proofs.lemmas.List.{set_at}
use Rattle.words.specs.Put.{put, copy_more}

pub nothing_put : {A : Type 0} (at : ℕ) (old : List A) → put at [] old ≡ old
unfolding put
nothing_put at old = simp (add-zero, append-nil, take-append-drop)

-- one store more, just past what was put
another_put : {A : Type 0} (at n : ℕ) (ws old : List A) (w : A) → length ws ≡ n → at + n < length old
    → set (put at ws old) (at + n) w ≡ put at (ws ++ (w ∷ [])) old
unfolding put
another_put at n ws old w e h =
    let long : length (take at old ++ ws) ≡ at + n = simp (length-append, length-take) (omega arith) in
    let past : at + length (ws ++ (w ∷ [])) ≡ suc (at + n) = simp length-append (omega arith) in
    rw (
      e,
      drop-cons old (at + n) w h,
      set_at _ _ _ w (at + n) long,
      past,
      ← append_assoc,
      append_assoc _ (w ∷ []) _,
    )

pub copy_another : {A : Type 0} (at j : ℕ) (src old dst : List A) (w : A) → dst ≡ put at (take j src) old
    → j < length src → at + length src ≤ length old → w ≡ get_or src j w
    → set dst (at + j) w ≡ put at (take (j + 1) src) old
copy_another at j src old dst w so_far h g is =
    ap (λ l. set l (at + j) w) so_far
    ∙ another_put at j (take j src) old w (length-take-le j src (omega arith)) (omega arith)
    ∙ ap (λ l. put at l old)
    (ap (λ x. take j src ++ (x ∷ [])) is ∙ sym (take-suc src j w h) ∙ ap (λ k. take k src) (sym (add-one j)))

-- the same for numbers, of which one is written as a word
pub number_another : (at j : ℕ) (src old dst : List ℕ) (w : ℕ) → dst ≡ put at (take j src) old → j < length src
    → at + length src ≤ length old → w ≡ get_or src j 0 → set dst (at + j) w ≡ put at (take (j + 1) src) old
number_another at j src old dst w so_far h g is =
    ap (λ x. set dst (at + j) x) is
    ∙ copy_more at (length src) j src old dst so_far h (omega arith) g

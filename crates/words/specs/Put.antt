-- Words put into a lent slice. "Words past a result keep their values": so do the words before it.
-- All of this speaks of lists of numbers, and so of words of any width.
use Rattle.std.specs.Prelude.{◌≡◌, refl, List, [], ◌∷◌, ◌++◌, ℕ, suc, ◌+◌, ◌≤◌, ◌<◌, length, take, drop, set, get_or}
use Rattle.std.proofs.Common.{sym, ap, ◌∙◌, append_assoc, append-nil, add-zero, zero-add, add-one, arith, length-append}
use Rattle.std.proofs.Common.{length-take, length-drop, take-append-drop, drop-cons, take-suc, take_at, drop_at}
use Rattle.std.proofs.Common.{drop-drop, length-take-le, drop-set-lt, take-take}
use Rattle.std.proofs.Math.ListN.{get_or-append}
use Rattle.std.proofs.lemmas.List.{set_at, take-append-le}

-- `old` with `ws` in the place of the words from `at` on
unfoldable pub put : {A : Type 0} → ℕ → List A → List A → List A
put at ws old = take at old ++ ws ++ drop (at + length ws) old

pub length_put : (at : ℕ) (ws old : List ℕ) → at + length ws ≤ length old → length (put at ws old) ≡ length old
unfolding put
length_put at ws old h = simp (length-append, length-take, length-drop) (omega arith)

-- a part of it that is written over
pub put_part : {A : Type 0} (at n : ℕ) (ws old new : List A) → n ≡ length ws → new ≡ ws
    → take at old ++ (new ++ drop n (drop at old)) ≡ put at ws old
unfolding put
put_part at n ws old new long e =
    ap (λ l. take at old ++ (l ++ drop n (drop at old))) e
    ∙ ap (λ k. take at old ++ (ws ++ drop k (drop at old))) long
    ∙ ap (λ l. take at old ++ (ws ++ l)) (drop-drop (length ws) at old)
    ∙ sym (append_assoc (take at old) ws (drop (at + length ws) old))

-- at the front
pub put_front : (ws old : List ℕ) → put 0 ws old ≡ ws ++ drop (length ws) old
unfolding put
put_front ws old = rw zero-add

pub put_none : (at : ℕ) (old : List ℕ) → put at [] old ≡ old
unfolding put
put_none at old = simp (add-zero, append-nil, take-append-drop)

-- one store more, just past what was put
pub put_more : (at n : ℕ) (ws old : List ℕ) (w : ℕ) → length ws ≡ n → at + n < length old
    → set (put at ws old) (at + n) w ≡ put at (ws ++ (w ∷ [])) old
unfolding put
put_more at n ws old w e h =
    let long : length (take at old ++ ws) ≡ at + n = simp (length-append, length-take) (omega arith) in
    let past : at + length (ws ++ (w ∷ [])) ≡ suc (at + n) = simp length-append (omega arith) in
    rw (
      e,
      drop-cons old (at + n) 0 h,
      set_at _ _ _ w (at + n) long,
      past,
      ← append_assoc,
      append_assoc _ (w ∷ []) _,
    )

pub put_next : (n : ℕ) (ws old : List ℕ) (w : ℕ) → length ws ≡ n → n < length old
    → set (put 0 ws old) n w ≡ put 0 (ws ++ (w ∷ [])) old
put_next n ws old w e h = rw zero-add at (put_more 0 n ws old w e (omega arith))

-- a few stores in a row
pub put_one : (at : ℕ) (old : List ℕ) (a : ℕ) → at < length old → set old at a ≡ put at (a ∷ []) old
put_one at old a h = rw (put_none, add-zero) at (put_more at 0 [] old a refl (omega arith))

pub put_two : (at : ℕ) (old : List ℕ) (a b : ℕ) → at + 2 ≤ length old
    → set (set old at a) (at + 1) b ≡ put at (a ∷ b ∷ []) old
put_two at old a b h = rw (put_one at old a (omega arith)) (put_more at 1 (a ∷ []) old b refl (omega arith))

pub put_three : (at : ℕ) (old : List ℕ) (a b c : ℕ) → at + 3 ≤ length old
    → set (set (set old at a) (at + 1) b) (at + 2) c ≡ put at (a ∷ b ∷ c ∷ []) old
put_three at old a b c h =
    rw (put_two at old a b (omega arith)) (put_more at 2 (a ∷ b ∷ []) old c refl (omega arith))

put_four : (at : ℕ) (old : List ℕ) (a b c d : ℕ) → at + 4 ≤ length old
    → set (set (set (set old at a) (at + 1) b) (at + 2) c) (at + 3) d ≡ put at (a ∷ b ∷ c ∷ d ∷ []) old
put_four at old a b c d h =
    rw (put_three at old a b c (omega arith))
    (put_more at 3 (a ∷ b ∷ c ∷ []) old d refl (omega arith))

pub put_five : (at : ℕ) (old : List ℕ) (a b c d e : ℕ) → at + 5 ≤ length old
    → set (set (set (set (set old at a) (at + 1) b) (at + 2) c) (at + 3) d) (at + 4) e
    ≡ put at (a ∷ b ∷ c ∷ d ∷ e ∷ []) old
put_five at old a b c d e h =
    rw (put_four at old a b c d (omega arith))
    (put_more at 4 (a ∷ b ∷ c ∷ d ∷ []) old e refl (omega arith))

-- more words, just past what was put
pub put_append : (at n : ℕ) (a b old : List ℕ) → length a ≡ n → at + n ≤ length old
    → put (at + n) b (put at a old) ≡ put at (a ++ b) old
unfolding put
put_append at n a b old e h =
    let long : length (take at old ++ a) ≡ at + n = simp (length-append, length-take) (omega arith) in
    let past : at + length (a ++ b) ≡ at + n + length b = simp length-append (omega arith) in
    rw (
      e,
      take_at (take at old ++ a) (drop (at + n) old) (at + n) long,
      ← drop-drop (length b) (at + n) (take at old ++ a ++ drop (at + n) old),
      drop_at (take at old ++ a) (drop (at + n) old) (at + n) long,
      drop-drop (length b) (at + n) old,
      past,
      append_assoc (take at old) a b,
    )

-- words just before what was put
pub put_before : (at n : ℕ) (a b old : List ℕ) → length a ≡ n → at + n + length b ≤ length old
    → put at a (put (at + n) b old) ≡ put at (a ++ b) old
unfolding put
put_before at n a b old e h =
    let long : length (take (at + n) old) ≡ at + n = length-take-le (at + n) old (omega arith) in
    let front : take at (take (at + n) old ++ b ++ drop (at + n + length b) old) ≡ take at old =
    ap (take at) (append_assoc (take (at + n) old) b (drop (at + n + length b) old))
    ∙ take-append-le at (take (at + n) old) (b ++ drop (at + n + length b) old) (omega (arith, long))
    ∙ take-take at (at + n) old (omega arith) in
    let back : drop (at + n) (take (at + n) old ++ b ++ drop (at + n + length b) old)
    ≡ b ++ drop (at + n + length b) old =
    ap (drop (at + n)) (append_assoc (take (at + n) old) b (drop (at + n + length b) old))
    ∙ drop_at (take (at + n) old) (b ++ drop (at + n + length b) old) (at + n) long in
    let past : at + length (a ++ b) ≡ at + n + length b = simp length-append (omega arith) in
    rw (e, front, back, past)
    (sym (append_assoc (take at old ++ a) b (drop (at + n + length b) old))
    ∙ ap (λ x. x ++ drop (at + n + length b) old) (append_assoc (take at old) a b))

-- a turn of a loop that copies the first n words of src, and its end
module _ (at n j : ℕ) (src old dst : List ℕ) (so_far : dst ≡ put at (take j src) old) where
  pub copy_more : j < n → n ≤ length src → at + n ≤ length old
      → set dst (at + j) (get_or src j 0) ≡ put at (take (j + 1) src) old
  copy_more h l g =
      rw (so_far, add-one j, take-suc src j 0 (omega arith))
      (put_more at j (take j src) old (get_or src j 0) (length-take-le j src (omega arith)) (omega arith))

  pub copied : j ≤ n → n ≤ j → dst ≡ put at (take n src) old
  copied h g =
      let whole : j ≡ n = omega arith in
      rw (so_far, whole)

-- the same turn where the words go to the beginning
pub copy_first : (n j : ℕ) (src old dst : List ℕ) → dst ≡ put 0 (take j src) old → j < n → n ≤ length src
    → n ≤ length old → set dst j (get_or src j 0) ≡ put 0 (take (j + 1) src) old
copy_first n j src old dst so_far h l g = rw zero-add at (copy_more 0 n j src old dst so_far h l (omega arith))

-- what was put can be read again
pub take_put : (ws old : List ℕ) → take (length ws) (put 0 ws old) ≡ ws
unfolding put
take_put ws old = take_at ws (drop (0 + length ws) old) (length ws) refl

pub get_d_put : (ws old : List ℕ) (i : ℕ) → i < length ws → get_or (put 0 ws old) i 0 ≡ get_or ws i 0
unfolding put
get_d_put ws old i h = get_or-append ws (drop (0 + length ws) old) 0 i h

-- what is put over a word makes an end of it
pub put_over : (a b : ℕ) (ws old : List ℕ) → put 0 (a ∷ ws) (set old 0 b) ≡ put 0 (a ∷ ws) old
unfolding put
put_over a b ws old = rw (drop-set-lt (0 + length (a ∷ ws)) old 0 b (omega arith))

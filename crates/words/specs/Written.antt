-- A loop that writes a list of words into a slice, from index `at` on: m of them stand there, and the rest is left.
use Rattle.std.specs.Prelude.{◌≡◌, List, [], ◌∷◌, ◌++◌, ℕ, ◌+◌, ◌*◌, ◌≤◌, ◌<◌, length, take, drop, set}
use Rattle.std.proofs.Common.{sym, ap, ◌∙◌, arith, length-append, length-drop, drop-drop, take_all, take-add}
use Rattle.std.proofs.Common.{length-take-le}
use Rattle.std.proofs.Math.Seq.{take-append_seam, drop-append_seam}
use Rattle.words.specs.Put.{put, put_more, put_append}

module _ (whole : List ℕ) (m : ℕ) where
  -- the next words of the list are x
  module _ (x rest : List ℕ) (next : drop m whole ≡ x ++ rest) where
    pub left_next : drop (m + length x) whole ≡ rest
    left_next = sym (drop-drop (length x) m whole) ∙ ap (drop (length x)) next ∙ drop-append_seam x rest

    pub taken_next : take (m + length x) whole ≡ take m whole ++ x
    taken_next =
        take-add m (length x) whole
        ∙ ap (λ l. take m whole ++ take (length x) l) next
        ∙ ap (λ l. take m whole ++ l) (take-append_seam x rest)

  module _ (x : ℕ) (rest : List ℕ) (next : drop m whole ≡ x ∷ rest) where
    pub left_one : drop (m + 1) whole ≡ rest
    left_one = left_next (x ∷ []) rest next

    pub taken_one : take (m + 1) whole ≡ take m whole ++ (x ∷ [])
    taken_one = taken_next (x ∷ []) rest next

    pub within_one : m < length whole
    within_one = omega (arith, length-drop m whole, ap length next)

module _
    (whole old dst : List ℕ)
    (at m : ℕ)
    (held : dst ≡ put at (take m whole) old)
    (room : at + length whole ≤ length old)
  where
    -- one word more
    pub write_one : (x : ℕ) (rest : List ℕ) → drop m whole ≡ x ∷ rest
        → set dst (at + m) x ≡ put at (take (m + 1) whole) old
    write_one x rest next =
        let inside = within_one whole m x rest next in
        rw (held, taken_one whole m x rest next)
        (put_more at m (take m whole) old x (length-take-le m whole (omega arith)) (omega arith))

    -- more words at once
    pub write_some : (x rest : List ℕ) → m ≤ length whole → drop m whole ≡ x ++ rest
        → put (at + m) x dst ≡ put at (take (m + length x) whole) old
    write_some x rest inside next =
        rw (held, taken_next whole m x rest next)
        (put_append at m (take m whole) x old (length-take-le m whole inside) (omega arith))

    -- all are written
    pub write_done : length whole ≤ m → dst ≡ put at whole old
    write_done h = held ∙ ap (λ l. put at l old) (take_all m whole h)

-- ---- two parts of one length each turn
module _
    (whole a b rest : List ℕ)
    (at m count : ℕ)
    (next : drop m whole ≡ a ++ (b ++ rest))
    (long-a : length a ≡ count)
    (long-b : length b ≡ count)
    (inside : m ≤ length whole)
  where
    pub pair_long : length whole ≡ m + (count + (count + length rest))
    pair_long =
        omega (
          arith,
          length-drop m whole,
          ap length next,
          length-append a (b ++ rest),
          length-append b rest,
          long-a,
          long-b,
        )

    between : drop (m + count) whole ≡ b ++ rest
    between = ap (λ k. drop (m + k) whole) (sym long-a) ∙ left_next whole m a (b ++ rest) next

    pub pair_left : drop (m + 2 * count) whole ≡ rest
    pair_left =
        let twice : m + 2 * count ≡ m + count + length b = omega (arith, long-b) in
        ap (λ k. drop k whole) twice ∙ left_next whole (m + count) b rest between

    pub write_pair : (old out mid end : List ℕ) → at + length whole ≤ length old → out ≡ put at (take m whole) old
        → mid ≡ put (at + m) a out → end ≡ put (at + m + count) b mid → end ≡ put at (take (m + 2 * count) whole) old
    write_pair old out mid end room held first second =
        let half : mid ≡ put at (take (m + count) whole) old =
        first
        ∙ write_some whole old out at m held room a (b ++ rest) inside next
        ∙ ap (λ k. put at (take (m + k) whole) old) long-a in
        let place : at + m + count ≡ at + (m + count) = omega arith in
        let twice : m + count + length b ≡ m + 2 * count = omega (arith, long-b) in
        second
        ∙ ap (λ k. put k b mid) place
        ∙ write_some whole old mid at (m + count) half room b rest (omega (arith, pair_long)) between
        ∙ ap (λ k. put at (take k whole) old) twice

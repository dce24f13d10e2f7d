-- A loop that writes a list of words, part by part, from index `at` on: `here` is the index of the next word, and
-- `left` is what is still to be written.
use Rattle.std.specs.Prelude.{◌≡◌, refl, List, [], ◌++◌, ℕ, ◌+◌, ◌≤◌, length}
use Rattle.std.proofs.Common.{sym, ap, ◌∙◌, append_assoc, append-nil, arith, length-append}
use Rattle.words.specs.Put.{put, put_none, put_append, length_put}

pub record Writing (whole left old out : List ℕ) (at here : ℕ) : Type 0 where
  pub done : List ℕ
  pub is_whole : done ++ left ≡ whole
  pub is_out : out ≡ put at done old
  pub is_here : here ≡ at + length done
  pub room : at + length whole ≤ length old

pub writing_first : (whole old : List ℕ) (at : ℕ) → at + length whole ≤ length old → Writing whole whole old old at at
writing_first whole old at h =
    record { done = []; is_whole = refl; is_out = sym (put_none at old); is_here = omega arith; room = h }

-- the next part of what is left
module _
    (whole left part rest old out : List ℕ)
    (at here : ℕ)
    (w : Writing whole left old out at here)
    (next : left ≡ part ++ rest)
  where
    long : length whole ≡ length w.done + (length part + length rest)
    long =
        omega (
          arith,
          ap length w.is_whole,
          ap length next,
          length-append w.done left,
          length-append part rest,
        )

    kept : length out ≡ length old
    kept = ap length w.is_out ∙ length_put at w.done old (omega (arith, long, w.room))

    pub writing_room : here + length part ≤ length out
    writing_room = omega (arith, long, kept, w.is_here, w.room)

    pub writing_more : (out' : List ℕ) (here' : ℕ) → out' ≡ put here part out → here' ≡ here + length part
        → Writing whole rest old out' at here'
    writing_more out' here' e f =
        record {
          done = w.done ++ part;
          is_whole = append_assoc w.done part rest ∙ ap (λ l. w.done ++ l) (sym next) ∙ w.is_whole;
          is_out =
              e
              ∙ (λ i. put (w.is_here i) part (w.is_out i))
              ∙ put_append at (length w.done) w.done part old refl (omega (arith, long, w.room));
          is_here = omega (arith, f, w.is_here, length-append w.done part);
          room = w.room;
        }

-- nothing is left
module _
    (whole left old out : List ℕ)
    (at here : ℕ)
    (w : Writing whole left old out at here)
    (none : left ≡ [])
  where
    all_done : w.done ≡ whole
    all_done = sym (append-nil w.done) ∙ ap (λ l. w.done ++ l) (sym none) ∙ w.is_whole

    pub writing_done : out ≡ put at whole old
    writing_done = w.is_out ∙ ap (λ l. put at l old) all_done

    pub writing_end : here ≡ at + length whole
    writing_end = w.is_here ∙ ap (λ l. at + length l) all_done

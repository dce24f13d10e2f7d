-- The ways out of the call: nothing found, too little room, or the rows written.
use mathlib.Core.Path.{◌≡◌, sym, ap, ◌∙◌}
use mathlib.Core.List.{List}
use Prim.Native.Nat.{ℕ, ◌*◌, ◌≤◌, ◌<◌}
use native.Mathlib.Omega.{arith}
use borrow.Author.Tests.{le-leb, lt-leb}
use lib.ListN.{length, take}
use lib.Seq.{length-take-le}
use Rattle.words.specs.Put.{put}
use Rattle.lists.specs.Lists.{concat_map}
use Rattle.replies.specs.Reply.{Done, Refused}
use Rattle.replies.specs.Replies.{reply_done, reply_refused, words_done, words_kept}
use Rattle.lines_check.specs.Asked.{query_number}
use Rattle.lines_check.specs.Yes.{yes_all}
use Rattle.query_places.specs.Candidates.{first_read, near_read}
use Rattle.query_minutes.specs.Minutes.{no_points, note_all, blank, leads}
use Rattle.query_kept.specs.Choosing.{rows_from}
use Rattle.query_kept.specs.Keeping.{Keeps, rows_kept, rows_kept_lem}
use Rattle.query_direct.specs.Shown.{best_of, leads_of, found_number, found_words, found_reply, found_answer}

pub best_found : (v filled best : List ℕ) (a b u : ℕ) → filled ≡ blank → best ≡ note_all filled (first_read v a u b)
    → best ≡ best_of v a b u
best_found v filled best a b u e f = f ∙ ap (λ l. note_all l (first_read v a u b)) e

pub count_found : (v filled best : List ℕ) (a b u r : ℕ) → r ≡ length (leads no_points 0 best) → filled ≡ blank
    → best ≡ note_all filled (first_read v a u b) → r ≡ length (leads_of v a b u)
count_found v filled best a b u r g e f =
    g ∙ ap (λ l. length (leads no_points 0 l)) (best_found v filled best a b u e f)

module _ (v : List ℕ) (a b u count : ℕ) (is : count ≡ length (leads_of v a b u)) where
  module _ (gone : count < 1) where
    nothing : (m : ℕ) → 14 ≡ found_number v a b u m
    unfolding found_number
    nothing m = simp (← is, lt-leb 1 count gone)

    pub none_reply : (m : ℕ) → Refused 14 ≡ found_reply v a b u m
    unfolding found_reply
    none_reply m = reply_refused (found_number v a b u m) (length (leads_of v a b u)) 13 (nothing m)

    pub none_words : (old : List ℕ) → old ≡ found_answer v a b u old
    unfolding found_answer
    none_words old = words_kept (found_number v a b u (length old)) (found_words v a b u) old 13 (nothing (length old))

  module _ (some : 1 ≤ count) where
    module _ (m : ℕ) (short : m < 6 * count) where
      narrow : 15 ≡ found_number v a b u m
      unfolding found_number
      narrow = simp (← is, le-leb 1 count some, lt-leb (6 * count) m short)

      pub short_reply : Refused 15 ≡ found_reply v a b u m
      unfolding found_reply
      short_reply = reply_refused (found_number v a b u m) (length (leads_of v a b u)) 14 narrow

    pub short_words : (old : List ℕ) → length old < 6 * count → old ≡ found_answer v a b u old
    unfolding found_answer
    short_words old short =
        words_kept (found_number v a b u (length old)) (found_words v a b u) old 14 (narrow (length old) short)

    enough : (m : ℕ) → 6 * count ≤ m → 0 ≡ found_number v a b u m
    unfolding found_number
    enough m room = simp (← is, le-leb 1 count some, le-leb (6 * count) m room)

    pub done_reply : (m : ℕ) → 6 * count ≤ m → Done count ≡ found_reply v a b u m
    unfolding found_reply
    done_reply m room =
        ap Done is ∙ reply_done (found_number v a b u m) (length (leads_of v a b u)) (sym (enough m room))

    pub done_words : (old new best kept : List ℕ) → 6 * count ≤ length old → best ≡ best_of v a b u
        → length best ≡ 2880 → Keeps best kept (near_read v a u b)
        → new ≡ put 0 (concat_map (λ r. r) (rows_kept u kept (leads no_points 0 best))) old
        → new ≡ found_answer v a b u old
    unfolding found_answer
    done_words old new best kept room e long keeps f =
        f
        ∙ ap (λ rows. put 0 (concat_map (λ r. r) rows) old) (rows_kept_lem u best kept (near_read v a u b) long keeps)
        ∙ ap (λ l. put 0 (concat_map (λ r. r) (rows_from u (near_read v a u b) (leads no_points 0 l))) old) e
        ∙ words_done (found_number v a b u (length old)) (found_words v a b u) old (sym (enough (length old) room))

pub rows_room : (v best : List ℕ) (a b u count m : ℕ) → best ≡ best_of v a b u → count ≡ length (leads_of v a b u)
    → 6 * count ≤ m → 6 * length (leads no_points 0 best) ≤ m
rows_room v best a b u count m e is room = omega (arith, ap (λ l. length (leads no_points 0 l)) e)

-- working space is as long as the questions asked for
module _ (w v work after : List ℕ) (a b u number : ℕ)
    (is : number ≡ query_number w v (length work) a b u) (none_denied : number ≡ 0) (kept : length after ≡ length work)
  where
    pub kept_room : 11520 ≤ length after
    kept_room =
        omega (arith, (yes_all w v (length work) a b u (sym is ∙ none_denied)).slices.work)

    pub kept_part : length (take 11520 after) ≡ 11520
    kept_part = length-take-le 11520 after kept_room

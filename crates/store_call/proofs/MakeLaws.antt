-- The ways out of making a store: it does not fit, there is too little room, or it is written.
use mathlib.Core.Path.{◌≡◌, sym, ap, ◌∙◌}
use mathlib.Core.Bool.{Bool, true, false, not, ◌&&◌}
use mathlib.Core.Logic.{inl, inr}
use mathlib.Core.List.{List}
use Prim.Native.Nat.{ℕ, suc, ◌+◌, ◌*◌, ◌^◌, ◌≤◌, ◌<◌}
use native.Mathlib.Omega.{arith}
use borrow.Author.Tests.{le-leb, lt-leb, not-true, not-false}
use lib.Dec.{leb}
use lib.ListN.{length}
use Rattle.words.specs.Put.{put}
use Rattle.lists.specs.Tests.{and_false}
use Rattle.replies.specs.Reply.{Done, Refused}
use Rattle.replies.specs.Replies.{reply_done, reply_refused, words_done, words_kept}
use Rattle.timetable.specs.Words.{is_timetable}
use Rattle.stores.specs.Words.{nodes, arcs, entries_most, encode, store_words}
use Rattle.store_tree.specs.declared.Counts.{Counts}
use Rattle.store_tree.specs.Tree.{Made, Grown, TooMany}
use Rattle.store_tree.specs.Taking.{Whole as Finished}
use Rattle.store_tree.specs.Finished.{grown_nodes, grown_arcs, grown_length}
use Rattle.stores.specs.Stored.{sequences}
use Rattle.promises.specs.StoreCall.{store_of, fits}
use Rattle.store_tree.specs.StoredTree.{stored_made}
use Rattle.store_growth.specs.Chunks.{Whole}
use Rattle.store_call.specs.Made.{made_number, made_reply, made_after}

-- question 15 is the only one left
module _ (w : List ℕ) (a m : ℕ) (e : fits w a m ≡ false) where
  number_15 : 15 ≡ made_number w a m
  unfolding made_number
  number_15 = rw e

  reply_15 : Refused 15 ≡ made_reply w a m
  unfolding made_reply
  reply_15 = reply_refused (made_number w a m) (length (store_of w a)) 14 number_15

words_15 : (w : List ℕ) (a : ℕ) (old : List ℕ) → fits w a (length old) ≡ false → old ≡ made_after w a old
unfolding made_after
words_15 w a old e =
    words_kept (made_number w a (length old)) (store_of w a) old 14 (number_15 w a (length old) e)

module _ (w : List ℕ) (a : ℕ) (work targets : List ℕ) (r : Counts)
    (whole : Whole w (sequences w a) a work targets r) where
  -- ---- it does not fit
  module _ (not-fit : not r.fits ≡ true) where
    many_fails : (m : ℕ) → TooMany (sequences w a) → fits w a m ≡ false
    many_fails m (inl h) = rw (lt-leb (length (nodes (sequences w a))) entries_most h)
    many_fails m (inr h) =
        ap (λ t. t && leb (length (store_of w a)) m)
        (and_false (leb (length (nodes (sequences w a))) entries_most)
        (leb (length (arcs (sequences w a))) entries_most)
        (lt-leb (length (arcs (sequences w a))) entries_most h))

    many : TooMany (sequences w a)
    many = whole.refused (not-true r.fits not-fit)

    pub many_reply : (m : ℕ) → Refused 15 ≡ made_reply w a m
    many_reply m = reply_15 w a m (many_fails m many)

    pub many_words : (old : List ℕ) → old ≡ made_after w a old
    many_words old = words_15 w a old (many_fails (length old) many)

  -- ---- it fits
  module _ (sure : is_timetable w ≡ true) (fit : not r.fits ≡ false) where
    grown : Grown w (sequences w a) a work targets r.n r.m (suc r.n)
    grown = whole.taken (not-false r.fits fit)

    pub nodes_few : r.n ≤ entries_most
    nodes_few = grown.few_nodes

    pub arcs_few : r.m ≤ entries_most
    arcs_few = grown.few_arcs

    pub count_small : 2 + 3 * r.n + 2 * r.m < 2 ^ 32
    count_small = omega (arith, nodes_few, arcs_few)

    is_made : Made w (sequences w a)
    is_made = stored_made w sure a

    pub finished : Finished w work targets r.n r.m
    finished = record { sequences = sequences w a; source = a; made = is_made; grown = grown }

    long : 2 + 3 * r.n + 2 * r.m ≡ length (store_of w a)
    unfolding store_words
    long = grown_length w (sequences w a) is_made a work targets r.n r.m grown

    fits_if : (m : ℕ) (b : Bool) → leb (length (store_of w a)) m ≡ b → fits w a m ≡ b
    fits_if m b e =
        let n-is = grown_nodes w (sequences w a) is_made a work targets r.n r.m grown in
        let m-is = grown_arcs w (sequences w a) is_made a work targets r.n r.m grown in
        let few-n = grown.few_nodes in
        let few-m = grown.few_arcs in
        rw (
          le-leb (length (nodes (sequences w a))) entries_most (omega arith),
          le-leb (length (arcs (sequences w a))) entries_most (omega arith),
          e,
        )

    module _ (m : ℕ) (short : m < 2 + 3 * r.n + 2 * r.m) where
      pub short_reply : Refused 15 ≡ made_reply w a m
      short_reply = reply_15 w a m (fits_if m false (lt-leb (length (store_of w a)) m (omega (arith, long))))

    pub short_words : (old : List ℕ) → length old < 2 + 3 * r.n + 2 * r.m → old ≡ made_after w a old
    short_words old short =
        words_15 w a old
        (fits_if (length old) false (lt-leb (length (store_of w a)) (length old) (omega (arith, long))))

    none_left : (m : ℕ) → 2 + 3 * r.n + 2 * r.m ≤ m → 0 ≡ made_number w a m
    unfolding made_number
    none_left m room = rw (fits_if m true (le-leb (length (store_of w a)) m (omega (arith, long))))

    pub done_reply : (m : ℕ) → 2 + 3 * r.n + 2 * r.m ≤ m → Done (2 + 3 * r.n + 2 * r.m) ≡ made_reply w a m
    unfolding made_reply
    done_reply m room =
        ap Done long ∙ reply_done (made_number w a m) (length (store_of w a)) (sym (none_left m room))

    pub done_words : (old new : List ℕ) → 2 + 3 * r.n + 2 * r.m ≤ length old
        → ((ps : List (List ℕ)) (source : ℕ) → Made w ps
        → Grown w ps source work targets r.n r.m (suc r.n) → new ≡ put 0 (encode ps) old)
        → new ≡ made_after w a old
    unfolding made_after store_words
    done_words old new room wrote =
        wrote (sequences w a) a is_made grown
        ∙ words_done (made_number w a (length old)) (store_of w a) old (sym (none_left (length old) room))

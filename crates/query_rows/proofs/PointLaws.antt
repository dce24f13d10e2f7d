-- The laws of the pass where the points of the minute are read as a value: p is what stands for minute m.
use mathlib.Core.Path.{◌≡◌, sym, subst, ◌∙◌}
use mathlib.Core.Bool.{Bool, true, false, not}
use mathlib.Core.List.{List}
use Prim.Native.Nat.{ℕ, ◌+◌, ◌-◌, ◌≤◌, ◌<◌}
use native.Mathlib.Omega.{arith}
use borrow.Author.Tests.{ltb-true, ltb-false, not-true, not-false}
use lib.Dec.{ltb}
use lib.ListN.{length, get_or, take}
use Rattle.words.specs.Put.{put}
use Rattle.promises.specs.Query.{kept, rows, row_words}
use Rattle.query_arcs.specs.Kept.{LeastKept}
use Rattle.query_minutes.specs.Ending.{LeadsEnd}
use Rattle.query_arcs.specs.Granted.{Granted}
use Rattle.query_winner.specs.Winning.{Leading}
use Rattle.query_rows.specs.Written.{Written, Room}
use Rattle.query_winner.specs.Leader.{Leader, Named}
use Rattle.query_rows.specs.Named.{NamedRow, AllNamed, AllLed, named_kept}
use Rattle.query_rows.proofs.PassLaws.{Going, going_skip, now_leading, now_some, now_leader, now_room}
use Rattle.query_rows.proofs.PassLaws.{going_written, held_written}
use Rattle.query_rows.proofs.PassLaws.{Counting, counting_skip, count_leading, count_named, counting_row}

-- ---- while rows are written
module _
    (w v s best : List ℕ)
    (a b u here least m p : ℕ)
    (is : p ≡ get_or best m 0)
    (g : Granted w v s a b u)
    (is_least : LeastKept u (kept w s a b u) best)
    (long : length best ≡ 2880)
    (k : Going best (rows w s a b u) here least m)
    (until : ℕ)
    (ends : LeadsEnd best until)
    (early : m < until)
    (below : Bool)
    (is_below : below ≡ ltb p least)
  where
    more : m < 2880
    more = omega (arith, ends.few)

    pub skip_at : not below ≡ true → Going best (rows w s a b u) here least (m + 1)
    skip_at h =
        going_skip w v s best a b u here least m g is_least long k more
        (omega (arith, is, ltb-false p least (sym is_below ∙ not-true below h)))

    module _ (low : not below ≡ false) where
      lower : get_or best m 0 < least
      lower = omega (arith, is, ltb-true p least (sym is_below ∙ not-false below low))

      pub leading_at : Leading w s a b u m p
      leading_at =
          subst (Leading w s a b u m) (sym is) (now_leading w v s best a b u here least m g is_least long k more lower)

      pub some_at : (who : List ℕ) → AllLed w s a b u best who → 1 ≤ get_or who m 0
      some_at = now_some w v s best a b u here least m g is_least long k more lower

      pub leader_at : (who : List ℕ) → AllLed w s a b u best who → Leader w s a b u m p (get_or who m 0 - 1)
      leader_at who z =
          subst (λ q. Leader w s a b u m q (get_or who m 0 - 1)) (sym is)
          (now_leader w v s best a b u here least m g is_least long k more lower who z)

      pub room_at : (old out : List ℕ) → length (row_words (rows w s a b u)) ≤ length old → length out ≡ length old
          → Room w s a b u m p here out
      room_at old out room same =
          subst (λ q. Room w s a b u m q here out) (sym is)
          (now_room w v s best a b u here least m g is_least long k more lower old out room same)

      module _ (out new : List ℕ) (end : ℕ) (z : Written w s a b u m p here end out new) where
        written : Written w s a b u m (get_or best m 0) here end out new
        written = subst (λ q. Written w s a b u m q here end out new) is z

        pub written_at : Going best (rows w s a b u) end p (m + 1)
        written_at =
            subst (λ q. Going best (rows w s a b u) end q (m + 1)) (sym is)
            (going_written w v s best a b u here least m g is_least long k more lower out new end written)

        pub held_at : (old : List ℕ) → length (row_words (rows w s a b u)) ≤ length old
            → out ≡ put 0 (take here (row_words (rows w s a b u))) old
            → new ≡ put 0 (take end (row_words (rows w s a b u))) old
        held_at = held_written w v s best a b u here least m g is_least long k more lower out new end written

-- ---- while they are counted
module _
    (w v s best who : List ℕ)
    (a b u here least m p : ℕ)
    (is : p ≡ get_or best m 0)
    (g : Granted w v s a b u)
    (is_least : LeastKept u (kept w s a b u) best)
    (long : length best ≡ 2880)
    (k : Counting best who (rows w s a b u) here least m)
    (until : ℕ)
    (ends : LeadsEnd best until)
    (early : m < until)
    (below : Bool)
    (is_below : below ≡ ltb p least)
  where
    inside : m < 2880
    inside = omega (arith, ends.few)

    pub count_skip_at : not below ≡ true → Counting best who (rows w s a b u) here least (m + 1)
    count_skip_at h =
        counting_skip w v s best who a b u here least m g is_least long k inside
        (omega (arith, is, ltb-false p least (sym is_below ∙ not-true below h)))

    module _ (low : not below ≡ false) where
      less : get_or best m 0 < least
      less = omega (arith, is, ltb-true p least (sym is_below ∙ not-false below low))

      pub count_leading_at : Leading w s a b u m p
      count_leading_at =
          subst (Leading w s a b u m) (sym is)
          (count_leading w v s best who a b u here least m g is_least long k inside less)

      pub count_named_at : AllNamed w s a b u best who → Named w s a b u m p (get_or who m 0)
      count_named_at z =
          subst (λ q. Named w s a b u m q (get_or who m 0)) (sym is)
          (count_named w v s best who a b u here least m g is_least long k inside less z)

      pub count_row_at : (n : ℕ) (new : List ℕ) → length who ≡ 2880 → NamedRow w s a b u m p n who new
          → Counting best new (rows w s a b u) (here + n) p (m + 1)
      count_row_at n new long-who z =
          subst (λ q. Counting best new (rows w s a b u) (here + n) q (m + 1)) (sym is)
          (counting_row w v s best who a b u here least m g is_least long k inside less n new long-who
          (subst (λ q. NamedRow w s a b u m q n who new) is z))

      pub named_at : (n : ℕ) (new : List ℕ) → length who ≡ 2880 → NamedRow w s a b u m p n who new
          → AllNamed w s a b u best who → AllNamed w s a b u best new
      named_at n new long-who z all =
          named_kept w s best who new a b u m n (subst (λ q. NamedRow w s a b u m q n who new) is z) all inside long
          long-who

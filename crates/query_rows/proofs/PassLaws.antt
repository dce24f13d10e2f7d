-- One pass over the arrival minutes: the rows of those that lead so far are counted or written, and those of the
-- minutes that are left are the rest.
use mathlib.Core.Path.{◌≡◌, refl, sym, ap, subst, ◌∙◌}
use mathlib.Core.List.Memᴰ
use mathlib.Core.List.Memᴰ.{head as here_first}
use mathlib.Core.List.{List, [], ◌∷◌, ◌++◌}
use Prim.Native.Nat.{ℕ, zero, suc, ◌+◌, ◌-◌, ◌≤◌, ◌<◌, min}
use native.Mathlib.Nat.{le_refl, add-zero, zero-add}
use native.Mathlib.Numerals.{add-one}
use native.Mathlib.Omega.{arith, by_contra}
use native.Mathlib.Decide.{ℕ_discrete}
use lib.ListN.{length, get_or, take, drop, length-append, length-drop, take-append-drop, drop_of_length-le}
use lib.Seq.{drop-cons, drop-drop, get_or-drop, take-suc, take_all, get_or-set_same, get_or-set_other}
use Rattle.words.specs.Put.{put, put_none}
use Rattle.words.specs.Written.{left_next, write_some, write_done}
use Rattle.lists.specs.Lists.{◌∈◌}
use Rattle.lists.specs.Members.{none, cons_cases, append_cases}
use Rattle.results.specs.Results.{Cost}
use Rattle.connections.specs.Planner.{rows_of}
use Rattle.stores.specs.Words.{answer}
use Rattle.query_minutes.specs.Minutes.{no_points, leads}
use Rattle.query_minutes.specs.Noted.{get_d_any}
use Rattle.query_minutes.proofs.LeadLaws.{leads_here, leads_not}
use Rattle.promises.specs.Query.{kept, rows, row_words}
use Rattle.query_arcs.specs.Kept.{LeastKept}
use Rattle.query_rows.specs.Rowed.{RowFor}
use Rattle.query_minutes.specs.Ending.{Floor, LeadsEnd}
use Rattle.query_rows.specs.Leading.{no_cost, leads_count, lead_row}
use Rattle.query_arcs.specs.Granted.{Granted, all_bounds}
use Rattle.query_winner.specs.Winning.{cost_of, Leading}
use Rattle.query_rows.specs.Written.{Written, Room}
use Rattle.query_winner.specs.Leader.{Leader, Named}
use Rattle.query_rows.specs.Named.{NamedRow, AllNamed, AllLed, all_led}
use Rattle.query_minutes.proofs.EndLaws.{floor_none, floor_more, leads_over}

-- ---- the next of a list
module _ {A : Type 0} (l : List A) (i : ℕ) (x : A) (rest : List A) (next : drop i l ≡ x ∷ rest) where
  next_inside : i < length l
  next_inside = omega (arith, length-drop i l, ap length next)

  next_is : (d : A) → get_or l i d ≡ x
  next_is d = ap (λ k. get_or l k d) (sym (add-zero i)) ∙ sym (get_or-drop i l 0 d) ∙ ap (λ k. get_or k 0 d) next

  next_rest : drop (i + 1) l ≡ rest
  next_rest = sym (drop-drop 1 i l) ∙ ap (drop 1) next

  next_in : x ∈ l
  next_in =
      subst (λ k. x ∈ k) (take-append-drop i l)
      (Memᴰ.append_right (take i l) (subst (λ k. x ∈ k) (sym next) (here_first refl)))

-- the first `here` words are those of the minutes before m, of which the least penalty is `least`
pub record Going (best : List ℕ) (rs : List (List ℕ)) (here least m : ℕ) : Type 0 where
  pub place : ℕ
  pub left : drop place (leads no_points 0 best) ≡ leads least m (drop m best)
  pub within : here ≤ length (row_words rs)
  pub rest : drop here (row_words rs) ≡ row_words (drop place rs)
  pub lowest : Floor least m best

going_first : (best : List ℕ) (rs : List (List ℕ)) → Going best rs 0 no_points 0
going_first best rs =
    record { place = 0; left = refl; within = omega arith; rest = refl; lowest = floor_none best no_points }

pub rows_are : (w s : List ℕ) (a b u : ℕ) → rows w s a b u ≡ rows_of u (kept w s a b u)
unfolding answer
rows_are w s a b u = refl

module _
    (w v s best : List ℕ)
    (a b u here least m : ℕ)
    (g : Granted w v s a b u)
    (is_least : LeastKept u (kept w s a b u) best)
    (long : length best ≡ 2880)
    (k : Going best (rows w s a b u) here least m)
  where
    abbrev rs : List (List ℕ)
    rs = rows w s a b u

    abbrev ls : List Cost
    ls = leads no_points 0 best

    count_is : length ls ≡ length rs
    count_is =
        leads_count u (kept w s a b u) (all_bounds w v s a b u g) best is_least ∙ ap length (sym (rows_are w s a b u))

    module _ (more : m < 2880) where
      pub going_skip : least ≤ get_or best m 0 → Going best (rows w s a b u) here least (m + 1)
      going_skip h =
          let low : min least (get_or best m 0) ≡ least = omega arith in
          record {
            place = k.place;
            left =
                k.left
                ∙ leads_not best least m (omega arith) h
                ∙ ap (λ z. leads z (m + 1) (drop (m + 1) best)) low;
            within = k.within;
            rest = k.rest;
            lowest = floor_more best least m (get_or best m 0) least k.lowest refl (sym low);
          }

      module _ (low : get_or best m 0 < least) where
        abbrev this : Cost
        this = cost_of m (get_or best m 0)

        now_next : drop k.place ls ≡ this ∷ leads (get_or best m 0) (m + 1) (drop (m + 1) best)
        now_next =
            let same : min least (get_or best m 0) ≡ get_or best m 0 = omega arith in
            k.left
            ∙ leads_here best least m (omega arith) low
            ∙ ap (λ z. this ∷ leads z (m + 1) (drop (m + 1) best)) same

        now_leads : cost_of m (get_or best m 0) ∈ leads no_points 0 best
        now_leads = next_in ls k.place this _ now_next

        pub now_leading : Leading w s a b u m (get_or best m 0)
        now_leading = record { best = best; least = is_least; leads = now_leads }

        -- the word of its arc
        pub now_named : (who : List ℕ) → AllNamed w s a b u best who
            → Named w s a b u m (get_or best m 0) (get_or who m 0)
        now_named who z = record { leader = λ j e. z.leader m (get_or best m 0) j now_leads e }

        pub now_some : (who : List ℕ) → AllLed w s a b u best who → 1 ≤ get_or who m 0
        now_some who z = z.some m (get_or best m 0) now_leads

        pub now_leader : (who : List ℕ) → AllLed w s a b u best who
            → Leader w s a b u m (get_or best m 0) (get_or who m 0 - 1)
        now_leader who z = z.leader m (get_or best m 0) now_leads

        module _ (row : List ℕ) (f : RowFor u (kept w s a b u) (cost_of m (get_or best m 0)) row) where
          inside : k.place < length ls
          inside = next_inside ls k.place this _ now_next

          row_is : row ≡ get_or rs k.place []
          row_is =
              lead_row u (kept w s a b u) (all_bounds w v s a b u g) best is_least k.place row inside
              (subst (λ c. RowFor u (kept w s a b u) c row) (sym (next_is ls k.place this _ now_next no_cost)) f)
              ∙ ap (λ l. get_or l k.place []) (sym (rows_are w s a b u))

          rows_next : drop k.place rs ≡ row ∷ drop (k.place + 1) rs
          rows_next =
              drop-cons rs k.place [] (omega (arith, inside, count_is))
              ∙ (λ i. sym row_is i ∷ drop (sym (add-one k.place) i) rs)

          words_next : drop here (row_words rs) ≡ row ++ row_words (drop (k.place + 1) rs)
          words_next = k.rest ∙ ap row_words rows_next

          pub fits_words : here + length row ≤ length (row_words rs)
          fits_words =
              omega (
                arith,
                k.within,
                length-drop here (row_words rs),
                ap length words_next,
                length-append row (row_words (drop (k.place + 1) rs)),
              )

          pub going_row : Going best rs (here + length row) (get_or best m 0) (m + 1)
          going_row =
              record {
                place = k.place + 1;
                left = next_rest ls k.place this _ now_next;
                within = fits_words;
                rest = left_next (row_words rs) here row (row_words (drop (k.place + 1) rs)) words_next;
                lowest = floor_more best least m (get_or best m 0) (get_or best m 0) k.lowest refl (omega arith);
              }

          pub written_row : (old out : List ℕ) → length (row_words rs) ≤ length old
              → out ≡ put 0 (take here (row_words rs)) old
              → put here row out ≡ put 0 (take (here + length row) (row_words rs)) old
          written_row old out room held =
              ap (λ i. put i row out) (sym (zero-add here))
              ∙ write_some (row_words rs) old out 0 here held (omega arith) row (row_words (drop (k.place + 1) rs))
              k.within
              words_next

        -- written
        pub now_room : (old out : List ℕ) → length (row_words (rows w s a b u)) ≤ length old → length out ≡ length old
            → Room w s a b u m (get_or best m 0) here out
        now_room old out room same = record { room = λ row f. omega (arith, fits_words row f) }

        module _ (out new : List ℕ) (end : ℕ) (z : Written w s a b u m (get_or best m 0) here end out new) where
          pub going_written : Going best (rows w s a b u) end (get_or best m 0) (m + 1)
          going_written =
              subst (λ e. Going best rs e (get_or best m 0) (m + 1)) (sym z.ends) (going_row z.row z.is)

          pub held_written : (old : List ℕ) → length (row_words (rows w s a b u)) ≤ length old
              → out ≡ put 0 (take here (row_words (rows w s a b u))) old
              → new ≡ put 0 (take end (row_words (rows w s a b u))) old
          held_written old room held =
              z.put_row
              ∙ written_row z.row z.is old out room held
              ∙ ap (λ e. put 0 (take e (row_words rs)) old) (sym z.ends)

    -- all minutes that can lead are seen
    module _ (end : ℕ) (ends : LeadsEnd best end) (done : end ≤ m) where
      all_past : length ls ≤ k.place
      all_past =
          let low = ends.over least (record { under = λ j h. k.lowest.under j (omega arith) }) in
          let none = k.left ∙ leads_over best least m long low in
          omega (arith, length-drop k.place ls, ap length none)

      all_read : here ≡ length (row_words (rows w s a b u))
      all_read =
          let past : length rs ≤ k.place = omega (arith, all_past, count_is) in
          let gone = k.rest ∙ ap row_words (drop_of_length-le rs {i = k.place} past) in
          omega (arith, k.within, length-drop here (row_words rs), ap length gone)

      pub all_written : (old out : List ℕ) → length (row_words (rows w s a b u)) ≤ length old
          → out ≡ put 0 (take here (row_words (rows w s a b u))) old
          → out ≡ put 0 (row_words (rows w s a b u)) old
      all_written old out room held =
          write_done (row_words rs) old out 0 here held (omega arith) (omega (arith, all_read))

-- ---- the same pass while it is counted: the minutes so far that lead have the word of their arc
pub record Counting (best who : List ℕ) (rs : List (List ℕ)) (here least m : ℕ) : Type 0 where
  pub going : Going best rs here least m
  pub some : (c : Cost) → c ∈ take going.place (leads no_points 0 best) → 1 ≤ get_or who c.minutes 0

counting_first : (best who : List ℕ) (rs : List (List ℕ)) → Counting best who rs 0 no_points 0
unfolding going_first
counting_first best who rs = record { going = going_first best rs; some = λ c i. none i }

module _
    (w v s best who : List ℕ)
    (a b u here least m : ℕ)
    (g : Granted w v s a b u)
    (is_least : LeastKept u (kept w s a b u) best)
    (long : length best ≡ 2880)
    (k : Counting best who (rows w s a b u) here least m)
  where
    module _ (more : m < 2880) where
      pub counting_skip : least ≤ get_or best m 0 → Counting best who (rows w s a b u) here least (m + 1)
      unfolding going_skip
      counting_skip h =
          record { going = going_skip w v s best a b u here least m g is_least long k.going more h; some = k.some }

      module _ (low : get_or best m 0 < least) where
        pub count_leading : Leading w s a b u m (get_or best m 0)
        count_leading = now_leading w v s best a b u here least m g is_least long k.going more low

        pub count_named : AllNamed w s a b u best who → Named w s a b u m (get_or best m 0) (get_or who m 0)
        count_named = now_named w v s best a b u here least m g is_least long k.going more low who

        pub counting_row : (n : ℕ) (new : List ℕ) → length who ≡ 2880
            → NamedRow w s a b u m (get_or best m 0) n who new
            → Counting best new (rows w s a b u) (here + n) (get_or best m 0) (m + 1)
        unfolding going_row
        counting_row n new long-who z =
            subst
            (λ j. Counting best new (rows w s a b u) (here + j) (get_or best m 0) (m + 1))
            z.counted.long
            (record {
              going =
                  going_row w v s best a b u here least m g is_least long k.going more low z.counted.row
                  z.counted.is;
              some = some;
            })
          where
            others : (c : Cost) → ¬ (c.minutes ≡ m) → c ∈ take (k.going.place + 1) (leads no_points 0 best)
                → 1 ≤ get_or who c.minutes 0
            others c other i =
                let next = now_next w v s best a b u here least m g is_least long k.going more low in
                let cut = take-suc (leads no_points 0 best) k.going.place no_cost
                (next_inside (leads no_points 0 best) k.going.place (cost_of m (get_or best m 0)) _ next) in
                append_cases (take k.going.place (leads no_points 0 best))
                (subst (λ l. c ∈ l) cut
                (subst (λ j. c ∈ take j (leads no_points 0 best)) (add-one k.going.place) i))
                (k.some c)
                (λ j.
                cons_cases j
                (λ e.
                absurd
                (other
                (ap (λ x. x.minutes)
                (e
                ∙ next_is (leads no_points 0 best) k.going.place (cost_of m (get_or best m 0)) _ next no_cost))))
                (λ x. none x))

            some : (c : Cost) → c ∈ take (k.going.place + 1) (leads no_points 0 best) → 1 ≤ get_or new c.minutes 0
            some c i = elim (ℕ_discrete c.minutes m) [ yes q ↦ this q | no q ↦ other q ]
              where
                this : c.minutes ≡ m → 1 ≤ get_or new c.minutes 0
                this q =
                    omega (
                      arith,
                      ap (λ j. get_or new j 0) q,
                      ap (λ l. get_or l m 0) z.named,
                      get_or-set_same who m (z.arc + 1) 0 (omega arith),
                    )

                other : ¬ (c.minutes ≡ m) → 1 ≤ get_or new c.minutes 0
                other q =
                    omega (
                      arith,
                      others c q i,
                      ap (λ l. get_or l c.minutes 0) z.named,
                      get_or-set_other who m c.minutes (z.arc + 1) 0 q,
                    )

    -- all minutes that can lead are seen
    module _ (end : ℕ) (ends : LeadsEnd best end) (done : end ≤ m) where
      pub all_counted : here ≡ length (row_words (rows w s a b u))
      all_counted = all_read w v s best a b u here least m g is_least long k.going end ends done

      pub all_led_now : AllNamed w s a b u best who → AllLed w s a b u best who
      all_led_now z =
          all_led w s best who a b u z
          (λ c i.
          k.some c
          (subst (λ l. c ∈ l)
          (sym
          (take_all k.going.place (leads no_points 0 best)
          (all_past w v s best a b u here least m g is_least long k.going end ends done)))
          i))

-- ---- no minute before that of the query leads
module _ (w v s best who : List ℕ) (a b u : ℕ) (g : Granted w v s a b u)
    (is_least : LeastKept u (kept w s a b u) best) (long : length best ≡ 2880) where
  early : (m : ℕ) → m < u → no_points ≤ get_or best m 0
  early m h = by_contra no_points (get_or best m 0) nobody
    where
      nobody : get_or best m 0 < no_points → ⊥
      nobody f =
          let same = get_d_any best m no_points 0 (omega (arith, g.minute)) in
          let z = is_least.attained m (omega (arith, same)) in
          omega (arith, z.arrives, (all_bounds w v s a b u g z.one z.listed).from)

  counting_to : (m : ℕ) → m ≤ u → Counting best who (rows w s a b u) 0 no_points m
  counting_to zero h = counting_first best who (rows w s a b u)
  counting_to (suc m) h =
      subst (Counting best who (rows w s a b u) 0 no_points) (add-one m)
      (counting_skip w v s best who a b u 0 no_points m g is_least long (counting_to m (omega arith))
      (omega (arith, g.minute))
      (early m (omega arith)))

  pub counting_begin : Counting best who (rows w s a b u) 0 no_points u
  counting_begin = counting_to u (le_refl u)

pub going_begin : (w v s best : List ℕ) (a b u : ℕ) → Granted w v s a b u → LeastKept u (kept w s a b u) best
    → length best ≡ 2880 → Going best (rows w s a b u) 0 no_points u
going_begin w v s best a b u g is_least long = (counting_begin w v s best [] a b u g is_least long).going

pub put_nothing : (old whole : List ℕ) → old ≡ put 0 (take 0 whole) old
put_nothing old whole = sym (put_none 0 old)

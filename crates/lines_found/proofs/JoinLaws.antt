-- The two ways in which a trip comes to a line: it founds the next, and goes behind all trips, or it joins one, and
-- goes in where that line ends.
use mathlib.Core.Path.{◌≡◌, sym, ap, ◌∙◌}
use mathlib.Core.List.{List, [], ◌∷◌, ◌++◌}
use Prim.Native.Nat.{ℕ, ◌+◌, ◌≤◌, ◌<◌}
use native.Mathlib.Nat.{zero-add}
use native.Mathlib.Omega.{arith}
use lib.ListN.{length, get_or, take, drop, set, length-append, length-drop}
use lib.Seq.{take-length, drop-length}
use Rattle.words.specs.Put.{put, put_next, get_d_put}
use Rattle.lines.specs.Once.{on_lines}
use Rattle.lines_found.specs.Grouped.{ends_from}
use Rattle.lines_order.specs.Steps.{Below, inserted, length_inserted, below_at, held, put_over_held}
use Rattle.lines_found.specs.Steps.{raised, length_raised}
use Rattle.lines_found.specs.Joined.{join_at, end_at, Joined, numbers_join, length_ends, end_at_lem, end_last}
use Rattle.lines_found.specs.Joined.{ends_join, ends_found}

-- an array that is longer than what was put into it has kept its length
put_room : (m : ℕ) (ws old : List ℕ) → length (put 0 ws old) ≡ m → length ws < m → m ≡ length old
unfolding put
put_room m ws old e h =
    omega (arith, length-append ws (drop (0 + length ws) old), length-drop (0 + length ws) old)

inserted_last : (x : ℕ) (l : List ℕ) → inserted (length l) x l ≡ l ++ (x ∷ [])
unfolding inserted
inserted_last x l = rw (take-length l, drop-length l)

-- there is one trip more
more_trips : (i z k : ℕ) (ls : List (List ℕ)) → length (on_lines ls) ≡ k → length (on_lines (join_at i z ls)) ≡ k + 1
more_trips i z k ls e =
    ap length (numbers_join i z ls) ∙ omega (arith, length_inserted (end_at i ls) z (on_lines ls))

module _ (i z k n : ℕ) (numbers ends : List ℕ) where
  pub founds : i ≡ n → n ≤ k → k < 256 → length numbers ≡ 256 → length ends ≡ 256
      → Joined i z k n (n + 1) numbers ends (set numbers k z) (set ends i (k + 1))
  unfolding Joined
  founds e h g ln le ls numbers₀ ends₀ before =
      let past : length ls ≤ i = omega (arith, before.lines) in
      let numbers_after : on_lines (join_at i z ls) ≡ on_lines ls ++ (z ∷ []) =
      numbers_join i z ls ∙ rw (end_last i ls (omega arith)) (inserted_last z (on_lines ls)) in
      let ends-after : ends_from 0 (join_at i z ls) ≡ ends_from 0 ls ++ ((k + 1) ∷ []) =
      ends_found i z 0 ls past ∙ rw (before.trips, zero-add k) in
      let long : length (ends_from 0 ls) ≡ n = length_ends 0 ls ∙ before.lines in
      let room : k < length numbers₀ =
      omega (
        arith,
        before.trips,
        put_room 256 (on_lines ls) numbers₀ (sym (ap length before.is_numbers) ∙ ln) (omega (arith, before.trips)),
      ) in
      let ends-room : i < length ends₀ =
      omega (
        arith,
        put_room 256 (ends_from 0 ls) ends₀ (sym (ap length before.is_ends) ∙ le) (omega arith),
      ) in
      record {
        trips = more_trips i z k ls before.trips;
        lines =
            omega (
              arith,
              length_ends 0 (join_at i z ls),
              ap length ends-after,
              length-append (ends_from 0 ls) ((k + 1) ∷ []),
            );
        is_numbers =
            ap (λ l. set l k z) before.is_numbers
            ∙ put_next k (on_lines ls) numbers₀ z before.trips room
            ∙ sym (ap (λ l. put 0 l numbers₀) numbers_after);
        is_ends =
            ap (λ l. set l i (k + 1)) before.is_ends
            ∙ put_next i (ends_from 0 ls) ends₀ (k + 1) (long ∙ sym e) ends-room
            ∙ sym (ap (λ l. put 0 l ends₀) ends-after);
      }

  module _ (h : i ≤ n) (d : i ≡ n → ⊥) where
    -- the line ends among the trips so far
    pub end_inside : Below (k + 1) (take n ends) → n ≤ k → k < 256 → length ends ≡ 256
        → (at : ℕ) → at ≡ get_or ends i 0 → at ≤ k
    end_inside b g l le at is = omega (arith, below_at (k + 1) n i ends b (omega arith) (omega arith))

    pub joins_line : (at : ℕ) → at ≡ get_or ends i 0 → (numbers' ends' : List ℕ)
        → numbers' ≡ put 0 (inserted at z (take k numbers)) numbers
        → ends' ≡ put 0 (raised i (take n ends)) ends → Joined i z k n n numbers ends numbers' ends'
    unfolding Joined
    joins_line at is numbers' ends' is_numbers is_ends ls numbers₀ ends₀ before =
        let inside : i < length ls = omega (arith, before.lines) in
        let long : length (ends_from 0 ls) ≡ n = length_ends 0 ls ∙ before.lines in
        let so_far : take k numbers ≡ on_lines ls =
        held k (on_lines ls) numbers₀ numbers before.is_numbers before.trips in
        let ends-so-far : take n ends ≡ ends_from 0 ls =
        held n (ends_from 0 ls) ends₀ ends before.is_ends long in
        let place : at ≡ end_at i ls =
        is
        ∙ ap (λ l. get_or l i 0) before.is_ends
        ∙ get_d_put (ends_from 0 ls) ends₀ i (omega arith)
        ∙ omega (arith, end_at_lem i 0 ls inside) in
        let more = length_inserted at z (take k numbers) in
        let as_many = length_raised i (take n ends) in
        record {
          trips = more_trips i z k ls before.trips;
          lines =
              sym (length_ends 0 (join_at i z ls))
              ∙ ap length (ends_join i z 0 ls inside)
              ∙ length_raised i (ends_from 0 ls)
              ∙ long;
          is_numbers =
              is_numbers
              ∙ put_over_held k (on_lines ls) numbers₀ numbers before.is_numbers before.trips
              (inserted at z (take k numbers)) (omega (arith, more, ap length so_far, before.trips))
              ∙ ap (λ l. put 0 l numbers₀) (rw (so_far, place) (sym (numbers_join i z ls)));
          is_ends =
              is_ends
              ∙ put_over_held n (ends_from 0 ls) ends₀ ends before.is_ends long
              (raised i (take n ends)) (omega (arith, as_many, ap length ends-so-far))
              ∙ ap (λ l. put 0 l ends₀) (rw ends-so-far (sym (ends_join i z 0 ls inside)));
        }

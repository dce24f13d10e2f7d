-- The arcs of the minutes that lead: each minute has the number of the arc whose connection is shown, and one more,
-- once that is known; its row has three words for each ride of the arc's sequence.
use Rattle.std.specs.Prelude.{◌≡◌, refl, List, ℕ, suc, ◌+◌, ◌-◌, ◌*◌, ◌≤◌, ◌<◌, length, get_or, set}
use Rattle.std.proofs.Common.{sym, ap, subst, ◌∙◌, arith, get_or-set_same, get_or-set_other}
use Rattle.std.proofs.Math.Decide.{ℕ_discrete}
use Rattle.timetable.specs.Words.{timetable_of}
use Rattle.lists.specs.Lists.{◌∈◌}
use Rattle.results.specs.Results.{Cost, row}
use Rattle.connections.specs.Connections.{net}
use Rattle.connections.specs.Planner.{measure, row_says}
use Rattle.connections.proofs.Sound.{Sound}
use Rattle.query_store.specs.Entries.{arc_count}
use Rattle.query_store.specs.Paths.{arc_path, length_readable}
use Rattle.query_minutes.specs.Minutes.{no_points, leads}
use Rattle.query_minutes.specs.Noted.{get_d_any, led_exactly}
use Rattle.promises.specs.Query.{kept}
use Rattle.query_arcs.specs.Kept.{LeastKept}
use Rattle.query_arcs.specs.Granted.{Granted, is_sound, all_bounds}
use Rattle.query_arcs.specs.Sole.{sole_all}
use Rattle.query_arcs.specs.Arcs.{rides_along, rides_along_lem, NotedAll}
use Rattle.query_winner.specs.Keys.{numbers_long}
use Rattle.query_winner.specs.Winning.{cost_of}
use Rattle.query_winner.specs.Leader.{Leader}
use Rattle.query_rows.specs.Leading.{row_of}
use Rattle.query_rows.specs.Written.{Counted}

-- the row for minute m and penalty p has n words, and the minute has the word of its arc
pub record NamedRow (w s : List ℕ) (a b u m p n : ℕ) (old new : List ℕ) : Type 0 where
  pub arc : ℕ
  pub leader : Leader w s a b u m p arc
  pub counted : Counted w s a b u m p n
  pub named : new ≡ set old m (arc + 1)

-- the penalty of a minute that leads
pub lead_points : (best : List ℕ) (m p : ℕ) → cost_of m p ∈ leads no_points 0 best → get_or best m no_points ≡ p
lead_points best m p i =
    let l = (led_exactly no_points best no_points 0 (cost_of m p)).0 i in
    ap (λ j. get_or best j no_points) (omega (arith, l.at)) ∙ l.is

-- every earlier one has more
pub lead_first : (best : List ℕ) (m p : ℕ) → cost_of m p ∈ leads no_points 0 best → (k : ℕ) → k < m
    → get_or best m no_points < get_or best k no_points
lead_first best m p i k h =
    let l = (led_exactly no_points best no_points 0 (cost_of m p)).0 i in
    omega (arith, l.first k (omega (arith, l.at)), lead_points best m p i)

module _ (w s : List ℕ) (a b u m p k : ℕ) (l : Leader w s a b u m p k) where
  pub leader_counted : (n : ℕ) → n ≡ 3 + 3 * rides_along (arc_path s k) → Counted w s a b u m p n
  leader_counted n e =
      record {
        row = row (measure u) l.one;
        is = record { one = l.one; shows = l.shows; is = refl };
        long =
            omega (
              arith,
              e,
              ap length (row_says u l.one),
              numbers_long l.one,
              rides_along_lem l.one,
              ap rides_along l.by,
            );
      }

  -- its row, and its word among those of the minutes
  pub leader_named : (n : ℕ) (who : List ℕ) → n ≡ 3 + 3 * rides_along (arc_path s k)
      → NamedRow w s a b u m p n who (set who m (k + 1))
  leader_named n who e = record { arc = k; leader = l; counted = leader_counted n e; named = refl }

-- ---- all minutes that lead

-- where a minute has a word, it is that of the arc that has the connection shown
pub record AllNamed (w s : List ℕ) (a b u : ℕ) (best who : List ℕ) : Type 0 where
  pub leader : (m p k : ℕ) → cost_of m p ∈ leads no_points 0 best → get_or who m 0 ≡ suc k → Leader w s a b u m p k

pub noted_named : (w v s best who : List ℕ) (a b u : ℕ) → Granted w v s a b u → LeastKept u (kept w s a b u) best
    → NotedAll w s a b u (arc_count s) best who → AllNamed w s a b u best who
noted_named w v s best who a b u g least noted = record { leader = leader }
  where
    ok : Sound (net (timetable_of w))
    ok = is_sound w v s a b u g

    leader : (m p j : ℕ) → cost_of m p ∈ leads no_points 0 best → get_or who m 0 ≡ suc j → Leader w s a b u m p j
    leader m p j i e =
        let z = (row_of u (kept w s a b u) (all_bounds w v s a b u g) best least (cost_of m p) i).1 in
        let sole = noted.sole ok in
        record {
          inside = sole.inside m j e;
          target = sole.ends m j e;
          one = z.one;
          shows = z.shows;
          by =
              sole_all (net (timetable_of w)) ok s a u b (arc_count s) best who (omega (arith, length_readable s))
              sole
              m
              j
              e
              z.one
              z.shows.listed
              z.shows.arrives
              (z.shows.pays ∙ sym (lead_points best m p i))
              (lead_first best m p i);
        }

-- one minute more has its word
pub named_kept : (w s best who new : List ℕ) (a b u m n : ℕ) → NamedRow w s a b u m (get_or best m 0) n who new
    → AllNamed w s a b u best who → m < 2880 → length best ≡ 2880 → length who ≡ 2880 → AllNamed w s a b u best new
named_kept w s best who new a b u m n z all inside long long-who = record { leader = leader }
  where
    here : get_or new m 0 ≡ z.arc + 1
    here = ap (λ l. get_or l m 0) z.named ∙ get_or-set_same who m (z.arc + 1) 0 (omega arith)

    leader : (e p k : ℕ) → cost_of e p ∈ leads no_points 0 best → get_or new e 0 ≡ suc k → Leader w s a b u e p k
    leader e p k i f = elim (ℕ_discrete e m) [ yes q ↦ this q | no q ↦ other q ]
      where
        this : e ≡ m → Leader w s a b u e p k
        this q =
            let arc : z.arc ≡ k = omega (arith, f, ap (λ j. get_or new j 0) q, here) in
            let points : get_or best m 0 ≡ p =
            get_d_any best m 0 no_points (omega arith)
            ∙ ap (λ j. get_or best j no_points) (sym q)
            ∙ lead_points best e p i in
            subst (λ j. Leader w s a b u j p k) (sym q)
            (subst (λ j. Leader w s a b u m j k) points
            (subst (Leader w s a b u m (get_or best m 0)) arc z.leader))

        other : ¬ (e ≡ m) → Leader w s a b u e p k
        other q =
            all.leader e p k i
            (sym (ap (λ l. get_or l e 0) z.named ∙ get_or-set_other who m e (z.arc + 1) 0 q) ∙ f)

-- every minute that leads has the word of its arc
pub record AllLed (w s : List ℕ) (a b u : ℕ) (best who : List ℕ) : Type 0 where
  pub some : (m p : ℕ) → cost_of m p ∈ leads no_points 0 best → 1 ≤ get_or who m 0
  pub leader : (m p : ℕ) → cost_of m p ∈ leads no_points 0 best → Leader w s a b u m p (get_or who m 0 - 1)

pub all_led : (w s best who : List ℕ) (a b u : ℕ) → AllNamed w s a b u best who
    → ((c : Cost) → c ∈ leads no_points 0 best → 1 ≤ get_or who c.minutes 0) → AllLed w s a b u best who
all_led w s best who a b u all some =
    record {
      some = λ m p i. some (cost_of m p) i;
      leader = λ m p i. all.leader m p (get_or who m 0 - 1) i (omega (arith, some (cost_of m p) i));
    }

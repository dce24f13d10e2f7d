-- Every accepted timetable meets demands 2 and 3, at the level of definitions. A store that was made keeps every
-- optimal connection on the list, and a list that keeps those has the result of the whole.
use Rattle.std.specs.Prelude.{◌≡◌, refl, ◌↔◌, List, [], ◌++◌, ℕ, T}
use Rattle.std.proofs.Common.{sym, subst}
use Rattle.std.proofs.Math.Path.{ap}
use Rattle.timetable.specs.Timetable.{Timetable, valid}
use Rattle.lists.specs.Lists.{◌∈◌, filter}
use Rattle.results.specs.Results.{Undominated, Picked, Answers}
use Rattle.results.proofs.Answered.{result_answers}
use Rattle.results.proofs.Kept.{result_kept, empty_kept}
use Rattle.connections.specs.Connections.{Feasible, Net, net, Connection, stations}
use Rattle.connections.specs.Planner.{planner_list, measure, rows_of, row_says}
use Rattle.connections.proofs.Sound.{Sound, sound}
use Rattle.connections.proofs.Listed.{listed, optimal_out}
use Rattle.stores.specs.Stored.{Sequence}
use Rattle.stores.specs.Words.{store_words, readable, holds, kept_list, answer}
use Rattle.stores.proofs.KeptLaws.{kept_exactly}
use Rattle.stores.proofs.StoredLaws.{stored_in, stored_out, store_read, store_well_made}
use Rattle.lines.specs.DirectRides.{directs, direct_rows}
use Rattle.lines.proofs.DirectLaws.{directs_exactly, direct_costs}
use Rattle.demands.specs.Demands.{Query, DemandTwo, DemandThree}

module _ (n : Net) (ok : Sound n) where
  kept_planned : (w : List ℕ) (a m b : ℕ) (c : Connection) → c ∈ kept_list n w a m b → c ∈ planner_list n a m b
  kept_planned w a m b c i = (listed n ok a m b c).1 ((kept_exactly n ok w a m b c).0 i).feasible

  kept_pair : (w : List ℕ) (a m b : ℕ) (c : Connection)
      → c ∈ kept_list n w a m b ↔ (Feasible n a m b c × (stations c ∈ readable w))
  kept_pair w a m b c = (out, into)
    where
      out : c ∈ kept_list n w a m b → Feasible n a m b c × (stations c ∈ readable w)
      out i = let k = (kept_exactly n ok w a m b c).0 i in (k.feasible, k.held)

      into : Feasible n a m b c × (stations c ∈ readable w) → c ∈ kept_list n w a m b
      into h = (kept_exactly n ok w a m b c).1 (record { feasible = h.0; held = h.1 })

  answer_answers : (w : List ℕ) (a m b : ℕ) → Answers (measure m) (kept_list n w a m b) (answer n w a m b)
  unfolding answer rows_of
  answer_answers w a m b = result_answers (measure m) (kept_list n w a m b)

  store_holds : (a : ℕ) (post q : List ℕ) → q ∈ readable (store_words n a ++ post) ↔ Sequence n a q
  store_holds a post q = (
    λ m. stored_out n ok a q ((store_read n ok a post q).0 m),
    λ s. (store_read n ok a post q).1 (stored_in n ok a q s),
  )

  module _ (a m b : ℕ) (post : List ℕ) (q : Query n a m b) where
    abbrev made : List ℕ
    made = store_words n a ++ post

    -- every optimal connection is kept
    keeps : (c : Connection) → Undominated (measure m) (planner_list n a m b) c → c ∈ kept_list n made a m b
    keeps c u =
        (kept_exactly n ok made a m b c).1
        (record {
          feasible = (optimal_out n ok a m b c u).feasible;
          held = (store_holds a post (stations c)).1 sequence;
        })
      where
        sequence : Sequence n a (stations c)
        sequence =
            record {
              minute = m;
              target = b;
              connection = c;
              in_time_lem = q.minute;
              elsewhere = q.target;
              optimal = optimal_out n ok a m b c u;
              is = refl;
            }

    keeps_picked : (c : Connection) → Picked (measure m) (planner_list n a m b) c → c ∈ kept_list n made a m b
    keeps_picked c p = keeps c p.best

    same_rows : answer n made a m b ≡ rows_of m (planner_list n a m b)
    unfolding answer rows_of
    same_rows =
        result_kept (measure m) (planner_list n a m b) (kept_list n made a m b) (kept_planned made a m b) keeps_picked

    same_none : (kept_list n made a m b ≡ []) ↔ (planner_list n a m b ≡ [])
    unfolding kept_list
    same_none = (
      empty_kept (measure m) (planner_list n a m b) (kept_list n made a m b) (kept_planned made a m b) keeps_picked,
      ap (filter (holds (readable made))),
    )

    rows_answer : Answers (measure m) (planner_list n a m b) (rows_of m (planner_list n a m b))
    unfolding rows_of
    rows_answer = result_answers (measure m) (planner_list n a m b)

    made_answers : Answers (measure m) (planner_list n a m b) (answer n made a m b)
    made_answers = subst (Answers (measure m) (planner_list n a m b)) (sym same_rows) rows_answer

direct_answers : (n : Net) (a m b : ℕ) → Answers (measure m) (directs n a m b) (direct_rows n a m b)
unfolding direct_rows rows_of
direct_answers n a m b = result_answers (measure m) (directs n a m b)

-- The theorems, for every accepted timetable.
module _ (t : Timetable) (v : T (valid t)) where
  abbrev ok : Sound (net t)
  ok = sound t v

  pub demand_two : DemandTwo t
  demand_two =
      record {
        direct = direct_answers (net t);
        directs_are = directs_exactly t;
        by_lines = direct_costs t;
        store = store_holds (net t) ok;
      }

  pub demand_three : DemandThree t
  demand_three =
      record {
        listed = listed (net t) ok;
        made = same_rows (net t) ok;
        made_answers = made_answers (net t) ok;
        made_none = same_none (net t) ok;
        kept = kept_pair (net t) ok;
        struck_answers = answer_answers (net t) ok;
        row_is = row_says;
        well_made_lem = λ a post h g. store_well_made (net t) ok a post;
      }

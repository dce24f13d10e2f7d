-- The promises for a timetable and line tables with a yes to 9 and 10, however their words came about. The words spell
-- an accepted timetable, so demands 2 and 3 hold of it; every question before 13 has its yes, and what is left to ask
-- is asked of the list.
use Rattle.std.specs.Prelude.{◌≡◌, refl, Bool, false, cond, ◌&&◌, ◌↔◌, List, [], ◌∷◌, ◌++◌, ℕ, zero, suc, ◌≤◌, T, leb}
use Rattle.std.specs.Prelude.{eqb}
use Rattle.std.proofs.Math.Path.{sym, ap}
use Rattle.std.proofs.Common.{subst, ◌∙◌, zero-add, arith}
use Rattle.std.proofs.Math.Bool.{true, not}
use borrow.Author.Tests.{leb-true, le-leb, ne_eqb}
use Rattle.std.proofs.Math.Dec.{eqb-suc-zero}
use Rattle.std.proofs.Math.ListN.{length, drop}
use Rattle.words.specs.Put.{put_front}
use Rattle.lists.specs.Lists.{◌∈◌}
use Rattle.lists.specs.Tests.{T_true, and_left, and_right, and_both}
use Rattle.questions.specs.Question.{Question, ask, first_no, yes_here, yes_later}
use Rattle.replies.specs.Replies.{number_of, reply_of, words_after}
use Rattle.replies.specs.Later.{Asked, asked_on}
use Rattle.timetable.specs.Timetable.{Timetable, last_minute, valid}
use Rattle.timetable.specs.Words.{timetable_of, is_timetable}
use Rattle.timetable.specs.Access.{spelled_valid}
use Rattle.connections.specs.Connections.{net, Connection, Feasible, duration}
use Rattle.connections.specs.Planner.{planner_list, rows_of}
use Rattle.connections.proofs.Sound.{Sound, sound}
use Rattle.connections.proofs.Feasibility.{ends_in_time}
use Rattle.stores.specs.Stored.{stored, Sequence}
use Rattle.stores.specs.Words.{nodes, arcs, entries_most, store_words, readable, well_made, kept_list, answer}
use Rattle.stores.specs.RoundTrip.{encode_length}
use Rattle.lines.specs.DirectRides.{directs, direct_rows}
use Rattle.lines_tables.specs.Building.{slices_least, build_reply, build_words}
use Rattle.lines_check.specs.Question10.{are_tables, tables_questions, tables_number}
use Rattle.lines_check.specs.Asked.{listed, named, query_questions}
use Rattle.lines_check.specs.Yes.{Long, long, long_all, tables_asked, query_asked}
use Rattle.lines_check.specs.Built.{built_asked}
use Rattle.demands.specs.Demands.{Query, DemandTwo, DemandThree}
use Rattle.demands.specs.Proofs.{demand_two, demand_three}
use Rattle.promises.specs.Packed.{packed_count}
use Rattle.promises.specs.Query.{row_words, last_questions, ask_number, ask_reply, ask_words}
use Rattle.promises.specs.DirectQuery.{direct_number, direct_reply, direct_words}
use Rattle.promises.specs.DirectQuery.{last_questions as direct_questions}
use Rattle.promises.specs.StoreCall.{fits, store_number, store_reply, store_after}
use Rattle.promises.specs.Promises.{
  DirectCall,
  StoreCall,
  QueryCall,
  refusal,
  Refuses,
  Shows,
  shown_words,
  word_count,
  StoreFits,
  Stores,
}
use Rattle.promises.proofs.Shown.{last_two, some_length, list_shown}

-- ---- where no question has a no, none of the first ones has
sum_zero : (n k : ℕ) → cond (eqb n 0) k n ≡ 0 → n ≡ 0
sum_zero zero k e = refl
sum_zero (suc n) k e = absurd (omega (arith, sym (ap (λ b. cond b k (suc n)) (eqb-suc-zero n)) ∙ e))

pub asked_zero : (l m : List Question) → Asked l → first_no (l ++ m) ≡ 0 → first_no l ≡ 0
asked_zero l m a e = sum_zero (first_no l) (first_no m) (sym (a.number m) ∙ e)

-- ---- the slices of a timetable and of line tables that were built from it are long enough
pub built_slices : (timetable before : List ℕ) (work : ℕ) → number_of (build_reply timetable (length before) work) ≡ 0
    → Long timetable (build_words timetable before work) work
unfolding tables_number
built_slices timetable before work done =
    let lines = build_words timetable before work in
    long_all timetable lines work
    (yes_here 7 (long timetable lines work) (ask 9 (is_timetable timetable) ∷ ask 10 (are_tables timetable lines) ∷ [])
    (built_asked timetable before work done))

module _ (timetable lines : List ℕ) (long-timetable : slices_least ≤ length timetable)
    (long-lines : slices_least ≤ length lines) (yes_9 : is_timetable timetable ≡ true)
    (yes_10 : are_tables timetable lines ≡ true) where
  abbrev plan : Timetable
  plan = timetable_of timetable

  plan_valid : T (valid plan)
  plan_valid = subst T (sym (spelled_valid timetable yes_9)) tt

  plan_sound : Sound (net plan)
  plan_sound = sound plan plan_valid

  two : DemandTwo plan
  two = demand_two plan plan_valid

  three : DemandThree plan
  three = demand_three plan plan_valid

  feasible_timely : (from minute to : ℕ) (c : Connection) → Feasible (net plan) from minute to c
      → duration minute c ≤ last_minute
  feasible_timely from minute to c f = omega (arith, ends_in_time (net plan) plan_sound from minute to c f)

  pub tables_yes : (work : ℕ) → slices_least ≤ work → first_no (tables_questions timetable lines work) ≡ 0
  tables_yes work enough =
      rw (
        le-leb slices_least (length timetable) long-timetable,
        le-leb slices_least (length lines) long-lines,
        le-leb slices_least work enough,
        yes_9,
        yes_10,
      )

  -- ---- the questions to a query that names two listed stations and a minute
  module _ (work from to minute : ℕ) (enough : slices_least ≤ work) (q : Query (net plan) from minute to) where
    named_yes : named plan from to ≡ true
    unfolding named listed
    named_yes =
        let inside = q.target in
        let most = length plan.stations in
        let first =
        and_both (leb 1 from) (leb from most) (le-leb 1 from q.source_first) (le-leb from _ q.source_last) in
        let second = and_both (leb 1 to) (leb to most) (le-leb 1 to inside.first) (le-leb to _ inside.last) in
        and_both (listed plan from && listed plan to) (not (eqb from to))
        (and_both (listed plan from) (listed plan to) first second)
        (differ (λ e. inside.other (sym e)))
      where
        differ : (from ≡ to → ⊥) → not (eqb from to) ≡ true
        differ h = rw (ne_eqb from to h)

    query_yes : first_no (query_questions timetable lines work from to minute) ≡ 0
    query_yes =
        asked_on (tables_questions timetable lines work)
        (ask 11 (named plan from to) ∷ ask 12 (leb minute last_minute) ∷ [])
        (tables_asked timetable lines work) (tables_yes work enough)
        ∙ rw (named_yes, le-leb minute last_minute q.minute)

    -- ---- the direct query
    pub direct_number_lem : (room : ℕ) → direct_number timetable lines work from to minute room
        ≡ first_no (direct_questions timetable from to minute room)
    unfolding direct_number
    direct_number_lem room =
        asked_on (query_questions timetable lines work from to minute) (direct_questions timetable from to minute room)
        (query_asked timetable lines work from to minute) query_yes

    pub direct_shown : (before after : List ℕ) (reply : ℕ)
        → DirectCall timetable lines work from to minute before after reply
        → Shows minute (directs (net plan) from minute to) before after reply
    unfolding direct_reply direct_words direct_rows
    direct_shown before after reply call =
        let list = directs (net plan) from minute to in
        let number = direct_number_lem (length before) in
        list_shown minute list
        (λ c i. feasible_timely from minute to c ((two.directs_are from minute to c).0 i).0)
        before after reply
        (call.replies ∙ ap (λ k. packed_count (reply_of k (length (rows_of minute list)))) number)
        (call.writes ∙ ap (λ k. words_after k (shown_words minute list) before) number)

    -- ---- the query
    module _ (store : List ℕ) where
      abbrev keeps : List Connection
      keeps = kept_list (net plan) store from minute to

      kept_timely : (c : Connection) → c ∈ keeps → duration minute c ≤ last_minute
      kept_timely c i = feasible_timely from minute to c ((three.kept store from minute to c).0 i).0

      query_number_lem : (room : ℕ) → ask_number timetable lines store work from to minute room
          ≡ first_no (last_questions timetable store from to minute room)
      unfolding ask_number
      query_number_lem room =
          asked_on (query_questions timetable lines work from to minute)
          (last_questions timetable store from to minute room)
          (query_asked timetable lines work from to minute) query_yes

      -- 13 has its yes
      pub kept_number : (room : ℕ) → well_made (length plan.stations) store ≡ true
          → ask_number timetable lines store work from to minute room
          ≡ first_no (last_two (leb 1 (length keeps)) (leb (length (shown_words minute keeps)) room))
      unfolding answer
      kept_number room well = query_number_lem room ∙ rw well

      pub kept_shown : (before after : List ℕ) (reply : ℕ) → well_made (length plan.stations) store ≡ true
          → QueryCall timetable lines store work from to minute before after reply
          → Shows minute keeps before after reply
      unfolding ask_reply ask_words answer
      kept_shown before after reply well call =
          let number = kept_number (length before) well in
          list_shown minute keeps kept_timely before after reply
          (call.replies ∙ ap (λ k. packed_count (reply_of k (length (rows_of minute keeps)))) number)
          (call.writes ∙ ap (λ k. words_after k (shown_words minute keeps) before) number)

      -- 13 has its no
      pub ill_made_refused : (before after : List ℕ) (reply : ℕ) → well_made (length plan.stations) store ≡ false
          → QueryCall timetable lines store work from to minute before after reply → Refuses 13 before after reply
      unfolding ask_reply ask_words answer packed_count reply_of words_after
      ill_made_refused before after reply ill call =
          let number : ask_number timetable lines store work from to minute (length before) ≡ 13 =
          query_number_lem (length before) ∙ rw ill in
          record {
            replies = call.replies ∙ rw number;
            writes = call.writes ∙ rw number;
          }

  -- ---- the store call
  module _ (source : ℕ) where
    abbrev stored_words : List ℕ
    stored_words = store_words (net plan) source

    stored_length : length stored_words ≡ word_count (net plan) source
    unfolding store_words
    stored_length = encode_length (stored (net plan) source)

    abbrev few_nodes : Bool
    few_nodes = leb (length (nodes (stored (net plan) source))) entries_most

    abbrev few_arcs : Bool
    few_arcs = leb (length (arcs (stored (net plan) source))) entries_most

    fits_true : (room : ℕ) → fits timetable source room ≡ true → StoreFits (net plan) source room
    fits_true room e =
        let both = and_left (few_nodes && few_arcs) (leb (length stored_words) room) e in
        let enough : length stored_words ≤ room =
        leb-true _ _ (and_right (few_nodes && few_arcs) (leb (length stored_words) room) e) in
        record {
          few_nodes = leb-true _ _ (and_left few_nodes few_arcs both);
          few_arcs = leb-true _ _ (and_right few_nodes few_arcs both);
          room_enough = omega (arith, stored_length, enough);
        }

    true_fits : (room : ℕ) → StoreFits (net plan) source room → fits timetable source room ≡ true
    true_fits room f =
        let enough : length stored_words ≤ room = omega (arith, stored_length, f.room_enough) in
        rw (le-leb _ _ f.few_nodes, le-leb _ _ f.few_arcs, le-leb (length stored_words) room enough)

    false_fits : (room : ℕ) → ¬ StoreFits (net plan) source room → fits timetable source room ≡ false
    false_fits room h = no_true (fits timetable source room) (λ e. h (fits_true room e))
      where
        no_true : (b : Bool) → (b ≡ true → ⊥) → b ≡ false
        no_true true g = absurd (g refl)
        no_true false g = refl

    -- what is left to ask
    abbrev closing_questions : (room : ℕ) → List Question
    closing_questions room = ask 11 (listed plan source) ∷ ask 15 (fits timetable source room) ∷ []

    module _ (work : ℕ) (enough : slices_least ≤ work) (first : 1 ≤ source) (last : source ≤ length plan.stations)
      where
        store_number_lem : (room : ℕ) → store_number timetable lines work source room
            ≡ cond (fits timetable source room) 0 15
        unfolding store_number listed
        store_number_lem room =
            asked_on (tables_questions timetable lines work) (closing_questions room)
            (tables_asked timetable lines work) (tables_yes work enough)
            ∙ rw (le-leb 1 source first, le-leb source (length plan.stations) last)

        module _ (before : List ℕ) where
          made_reply_lem : StoreFits (net plan) source (length before)
              → packed_count (store_reply timetable lines work source (length before)) ≡ word_count (net plan) source
          unfolding store_reply packed_count reply_of
          made_reply_lem f =
              rw (store_number_lem (length before), true_fits (length before) f)
              (zero-add (length stored_words) ∙ stored_length)

          made_words : StoreFits (net plan) source (length before)
              → store_after timetable lines work source before
              ≡ stored_words ++ drop (word_count (net plan) source) before
          unfolding store_after words_after
          made_words f =
              rw (store_number_lem (length before), true_fits (length before) f)
              (put_front stored_words before ∙ ap (λ k. stored_words ++ drop k before) stored_length)

          short_reply : ¬ StoreFits (net plan) source (length before)
              → packed_count (store_reply timetable lines work source (length before)) ≡ refusal 15
          unfolding store_reply packed_count reply_of
          short_reply f = rw (store_number_lem (length before), false_fits (length before) f)

          short_words : ¬ StoreFits (net plan) source (length before)
              → store_after timetable lines work source before ≡ before
          unfolding store_after words_after
          short_words f = rw (store_number_lem (length before), false_fits (length before) f)

          pub store_stored : (after : List ℕ) (reply : ℕ) → StoreCall timetable lines work source before after reply
              → Stores (net plan) source before after reply
          store_stored after reply call =
              record {
                short = (
                  λ e f. omega (arith, e, call.replies, made_reply_lem f, f.few_nodes, f.few_arcs),
                  λ f. call.replies ∙ short_reply f,
                );
                short_writes = λ f. call.writes ∙ short_words f;
                replies = λ f. call.replies ∙ made_reply_lem f;
                writes = λ f. call.writes ∙ made_words f;
              }

    -- ---- a store that was made: number 0 says that each question had its yes
    module _ (making : ℕ) (before store : List ℕ) (is : store ≡ store_after timetable lines making source before)
        (done : store_number timetable lines making source (length before) ≡ 0) where
      made_tables : first_no (tables_questions timetable lines making) ≡ 0
      unfolding store_number
      made_tables =
          asked_zero (tables_questions timetable lines making) (closing_questions (length before))
          (tables_asked timetable lines making) done

      made_work : slices_least ≤ making
      made_work =
          let yes = yes_here 7 (long timetable lines making)
          (ask 9 (is_timetable timetable) ∷ ask 10 (are_tables timetable lines) ∷ []) made_tables in
          (long_all timetable lines making yes).work

      made_last : first_no (closing_questions (length before)) ≡ 0
      unfolding store_number
      made_last =
          sym
          (asked_on (tables_questions timetable lines making) (closing_questions (length before))
          (tables_asked timetable lines making) made_tables)
          ∙ done

      made_listed : listed plan source ≡ true
      made_listed =
          yes_here 10 (listed plan source) (ask 15 (fits timetable source (length before)) ∷ []) made_last

      made_fits : StoreFits (net plan) source (length before)
      made_fits =
          fits_true (length before)
          (yes_here 14 (fits timetable source (length before)) []
          (yes_later 10 (listed plan source) (ask 15 (fits timetable source (length before)) ∷ []) made_last))

      made_first : 1 ≤ source
      unfolding listed
      made_first = leb-true 1 source (and_left (leb 1 source) (leb source (length plan.stations)) made_listed)

      made_within : source ≤ length plan.stations
      unfolding listed
      made_within =
          leb-true source (length plan.stations)
          (and_right (leb 1 source) (leb source (length plan.stations)) made_listed)

      abbrev past : List ℕ
      past = drop (word_count (net plan) source) before

      made_is : store ≡ stored_words ++ past
      made_is = is ∙ made_words making made_work made_first made_within before made_fits

      -- "holds a sequence exactly if it is the pattern [..] of an optimal connection"
      pub made_holds : (sequence : List ℕ) → sequence ∈ readable store ↔ Sequence (net plan) source sequence
      made_holds sequence =
          subst (λ s. sequence ∈ readable s ↔ Sequence (net plan) source sequence) (sym made_is)
          (two.store source past sequence)

      pub made_well_made : well_made (length plan.stations) store ≡ true
      made_well_made =
          ap (well_made (length plan.stations)) made_is
          ∙ T_true _
          (three.well_made_lem source past made_first made_within made_fits.few_nodes made_fits.few_arcs)

      -- ---- and a query from it
      module _ (work to minute : ℕ) (enough : slices_least ≤ work) (q : Query (net plan) source minute to) where
        abbrev planned : List Connection
        planned = planner_list (net plan) source minute to

        pub same_rows : answer (net plan) store source minute to ≡ rows_of minute planned
        same_rows = ap (λ s. answer (net plan) s source minute to) made_is ∙ three.made source minute to past q

        same_none : (kept_list (net plan) store source minute to ≡ []) ↔ (planned ≡ [])
        same_none =
            subst (λ s. (kept_list (net plan) s source minute to ≡ []) ↔ (planned ≡ [])) (sym made_is)
            (three.made_none source minute to past q)

        pub made_asked : (room : ℕ) → ask_number timetable lines store work source to minute room
            ≡ first_no (last_two (leb 1 (length planned)) (leb (length (shown_words minute planned)) room))
        unfolding answer
        made_asked room =
            let some = some_length (kept_list (net plan) store source minute to) planned same_none in
            kept_number work source to minute enough q store room made_well_made
            ∙ (λ i. first_no (last_two (some i) (leb (length (row_words (same_rows i))) room)))

        pub made_shown : (before after : List ℕ) (reply : ℕ)
            → QueryCall timetable lines store work source to minute before after reply
            → Shows minute planned before after reply
        unfolding ask_reply ask_words
        made_shown before after reply call =
            list_shown minute planned
            (λ c i. feasible_timely source minute to c ((three.listed source minute to c).0 i))
            before after reply
            (call.replies ∙ (λ i. packed_count (reply_of (made_asked (length before) i) (length (same_rows i)))))
            (call.writes ∙ (λ i. words_after (made_asked (length before) i) (row_words (same_rows i)) before))

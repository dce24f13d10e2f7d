-- The theorem of Promises. A text that was read and line tables that were built, with number 0, have a yes to 9 and 10,
-- and the words spell the text's timetable; so all that FromWords says holds of it.
use Rattle.std.specs.Prelude.{◌≡◌, refl, true, false, ◌&&◌, List, ◌++◌, ℕ, ◌+◌, ◌<◌, T, leb, length, drop}
use Rattle.std.proofs.Common.{sym, subst, ◌∙◌, zero-add, le-leb, drop_at}
use Rattle.std.proofs.Math.Path.{ap}
use Rattle.std.proofs.Math.Nat.{add-zero}
use Rattle.std.proofs.lemmas.Bool.{lt-leb}
use Rattle.words.specs.Put.{put_front}
use Rattle.lists.specs.Tests.{and_false}
use Rattle.replies.specs.Replies.{number_of, reply_of, words_after}
use Rattle.timetable.specs.Timetable.{Timetable, valid}
use Rattle.timetable.specs.Words.{words, timetable_of, is_timetable}
use Rattle.reading.specs.Reading.{Accepted, reading, read_reply, read_words}
use Rattle.reading.specs.Reading.{number_of as read_number}
use Rattle.accepted.specs.Sound.{accepted_valid}
use Rattle.accepted.specs.Question9.{number_zero, read_spells, read_has_yes}
use Rattle.connections.specs.Planner.{row_says}
use Rattle.lines_tables.specs.Building.{slices_least, line_count, build_reply}
use Rattle.lines_tables.specs.Tables.{table_words}
use Rattle.lines_check.specs.Question10.{are_tables}
use Rattle.lines_check.specs.Yes.{Long, long}
use Rattle.lines_check.specs.Built.{built_number, built_words, built_yes_9, built_has_yes}
use Rattle.demands.specs.Demands.{DemandTwo, DemandThree}
use Rattle.demands.specs.Proofs.{demand_two, demand_three}
use Rattle.promises.specs.Packed.{packed_reply, packed_count, succeeds_reply, succeeds_count}
use Rattle.promises.specs.Query.{ask_number, ask_reply, ask_words}
use Rattle.promises.specs.DirectQuery.{direct_number, direct_reply, direct_words}
use Rattle.promises.specs.StoreCall.{store_number, store_reply, store_after}
use Rattle.promises.specs.Promises.{
  ReadCall,
  DirectCall,
  StoreCall,
  QueryCall,
  Succeeds,
  Refuses,
  Loaded,
  Afresh,
  Promises,
}
use Rattle.promises.proofs.FromWords.{built_slices}
use Rattle.promises.proofs.FromAfresh.{
  direct_shows,
  query_shows,
  kept_shows,
  ill_made,
  store_stores,
  store_holds,
  store_well_made,
}

-- ---- what words begin with stands before the others
pub begins_again : (first whole rest : List ℕ) → whole ≡ first ++ rest → whole ≡ first ++ drop (length first) whole
begins_again first whole rest e =
    e ∙ ap (λ r. first ++ r) (sym (drop_at first rest (length first) refl) ∙ ap (drop (length first)) (sym e))

-- ---- reading, with number 0
module _ (text before after : List ℕ) (reply : ℕ) (call : ReadCall text before after reply) (done : Succeeds reply)
  where
    read_zero : read_number (read_reply text (length before)) ≡ 0
    read_zero = succeeds_reply (read_reply text (length before)) (subst Succeeds call.replies done)

    module _ (plan : Timetable) (text_lines : ℕ) (accepted : reading text ≡ Accepted plan text_lines) where
      read_plan : timetable_of after ≡ plan
      read_plan =
          ap timetable_of call.writes
          ∙ read_spells text plan text_lines accepted before (number_zero text (length before) read_zero).long

      read_writes : after ≡ words plan ++ drop (length (words plan)) before
      unfolding read_words
      read_writes =
          call.writes
          ∙ rw (le-leb slices_least (length before) (number_zero text (length before) read_zero).long, accepted)
          (put_front (words plan) before)

      read_count : reply ≡ text_lines
      unfolding packed_reply read_reply
      read_count =
          call.replies
          ∙ rw (le-leb slices_least (length before) (number_zero text (length before) read_zero).long, accepted)
          (zero-add (text_lines + 0) ∙ add-zero text_lines)

      read_yes : is_timetable after ≡ true
      read_yes =
          ap is_timetable call.writes
          ∙ read_has_yes text plan text_lines accepted before (number_zero text (length before) read_zero).long

-- ---- what is loaded
module _ (text : List ℕ) (plan : Timetable) (timetable lines : List ℕ) (l : Loaded text plan timetable lines) where
  loaded_plan : timetable_of timetable ≡ plan
  loaded_plan =
      read_plan text l.timetable_before timetable l.reply_to_read l.read l.read_succeeds
      plan l.text_lines l.accepted

  built_zero : number_of (build_reply timetable (length l.lines_before) l.work) ≡ 0
  built_zero =
      succeeds_count (build_reply timetable (length l.lines_before) l.work)
      (subst Succeeds l.built.replies l.build_succeeds)

  built_count : l.reply_to_build ≡ line_count plan
  unfolding build_reply packed_count reply_of
  built_count =
      l.built.replies
      ∙ rw (built_number timetable (length l.lines_before) l.work built_zero)
      (zero-add (line_count (timetable_of timetable)) ∙ ap line_count loaded_plan)

  lines_built : lines ≡ table_words plan ++ drop (length (table_words plan)) l.lines_before
  lines_built =
      l.built.writes
      ∙ built_words timetable l.lines_before l.work built_zero
      ∙ put_front (table_words (timetable_of timetable)) l.lines_before
      ∙ ap (λ p. table_words p ++ drop (length (table_words p)) l.lines_before) loaded_plan

  loaded_9 : is_timetable timetable ≡ true
  loaded_9 = built_yes_9 timetable l.lines_before l.work built_zero

  loaded_10 : are_tables timetable lines ≡ true
  loaded_10 =
      ap (are_tables timetable) l.built.writes ∙ built_has_yes timetable l.lines_before l.work built_zero

  loaded_long : Long timetable lines l.work
  loaded_long =
      subst (λ v. Long timetable v l.work) (sym l.built.writes)
      (built_slices timetable l.lines_before l.work built_zero)

  -- what reading and building wrote are the words and line tables of the plan
  pub loaded_afresh : Afresh plan timetable lines
  loaded_afresh =
      record {
        words_are =
            begins_again (words plan) timetable _
            (read_writes text l.timetable_before timetable l.reply_to_read l.read l.read_succeeds
            plan l.text_lines l.accepted);
        tables_are = begins_again (table_words plan) lines _ lines_built;
        spells = loaded_plan;
        timetable_long = loaded_long.words;
        lines_long = loaded_long.tables;
        yes_9 = loaded_9;
        yes_10 = loaded_10;
      }

-- ---- too little working space: question 8 has its no
module _ (timetable lines : List ℕ) (work : ℕ) (little : work < slices_least) where
  not_long : long timetable lines work ≡ false
  not_long =
      and_false (leb slices_least (length timetable) && leb slices_least (length lines)) (leb slices_least work)
      (lt-leb slices_least work little)

  module _ (before after : List ℕ) (reply : ℕ) where
    -- a reply and a slice by the number 8
    refused_8 : (number count : ℕ) (result : List ℕ) → number ≡ 8 → reply ≡ packed_count (reply_of number count)
        → after ≡ words_after number result before → Refuses 8 before after reply
    unfolding packed_count reply_of words_after
    refused_8 number count result is e f = record { replies = e ∙ rw is; writes = f ∙ rw is }

    direct_work : (from to minute : ℕ) → DirectCall timetable lines work from to minute before after reply
        → Refuses 8 before after reply
    unfolding direct_reply direct_words direct_number
    direct_work from to minute call =
        refused_8 (direct_number timetable lines work from to minute (length before)) _ _ (rw not_long)
        call.replies call.writes

    store_work : (source : ℕ) → StoreCall timetable lines work source before after reply
        → Refuses 8 before after reply
    unfolding store_reply store_after store_number
    store_work source call =
        refused_8 (store_number timetable lines work source (length before)) _ _ (rw not_long)
        call.replies call.writes

    query_work : (store : List ℕ) (from to minute : ℕ)
        → QueryCall timetable lines store work from to minute before after reply → Refuses 8 before after reply
    unfolding ask_reply ask_words ask_number
    query_work store from to minute call =
        refused_8 (ask_number timetable lines store work from to minute (length before)) _ _ (rw not_long)
        call.replies call.writes

-- ---- the timetable of an accepted text meets demands 2 and 3
module _ (text : List ℕ) (plan : Timetable) (text_lines : ℕ) (accepted : reading text ≡ Accepted plan text_lines) where
  plan_valid : T (valid plan)
  plan_valid = subst T (sym (accepted_valid text plan text_lines accepted)) tt

  two : DemandTwo plan
  two = demand_two plan plan_valid

  three : DemandThree plan
  three = demand_three plan plan_valid

pub promises : Promises
promises =
    record {
      reads =
          λ text before after reply call done.
          let r = number_zero text (length before) (read_zero text before after reply call done) in (
            r.timetable,
            r.lines,
            r.accepted,
            read_count text before after reply call done r.timetable r.lines r.accepted,
            read_writes text before after reply call done r.timetable r.lines r.accepted,
            read_yes text before after reply call done r.timetable r.lines r.accepted,
          );
      builds =
          λ text plan timetable lines l. (
            built_count text plan timetable lines l,
            lines_built text plan timetable lines l,
            loaded_10 text plan timetable lines l,
          );
      direct_shows =
          λ text plan timetable lines l work from to minute enough q.
          direct_shows plan timetable lines (loaded_afresh text plan timetable lines l) from to minute q work enough;
      direct_lines = λ text plan text_lines accepted. (two text plan text_lines accepted).by_lines;
      direct_list = λ text plan text_lines accepted. (two text plan text_lines accepted).directs_are;
      store_stores =
          λ text plan timetable lines l. store_stores plan timetable lines (loaded_afresh text plan timetable lines l);
      store_holds =
          λ text plan timetable lines l. store_holds plan timetable lines (loaded_afresh text plan timetable lines l);
      store_well_made =
          λ text plan timetable lines l.
          store_well_made plan timetable lines (loaded_afresh text plan timetable lines l);
      query_shows =
          λ text plan timetable lines l work from to minute enough q store made before after reply call.
          query_shows plan timetable lines (loaded_afresh text plan timetable lines l) from to minute q work enough
          before after reply store call made;
      planner_list_lem = λ text plan text_lines accepted. (three text plan text_lines accepted).listed;
      kept_shows =
          λ text plan timetable lines l work from to minute enough q store well before after reply call.
          kept_shows plan timetable lines (loaded_afresh text plan timetable lines l) from to minute q work enough
          before after reply store call well;
      kept_list_lem = λ text plan text_lines accepted. (three text plan text_lines accepted).kept;
      row_says = row_says;
      ill_made =
          λ text plan timetable lines l work from to minute enough q store ill before after reply call.
          ill_made plan timetable lines (loaded_afresh text plan timetable lines l) from to minute q work enough
          before after reply store call ill;
      direct_work =
          λ timetable lines work from to minute little before after reply.
          direct_work timetable lines work little before after reply from to minute;
      store_work =
          λ timetable lines work source little before after reply.
          store_work timetable lines work little before after reply source;
      query_work =
          λ timetable lines store work from to minute little before after reply.
          query_work timetable lines work little before after reply store from to minute;
    }

-- The theorem of ChangePromises. A change with number 0 puts the words of the plan after it, and its line tables, at
-- the front of both slices; so they are afresh those of the trips that now run, after any changes, and all that
-- FromAfresh says holds.
use Rattle.std.specs.Prelude.{◌≡◌, true, false, cond, T, eqb, length, drop, get_or}
use Rattle.std.proofs.Math.Path.{refl, sym, ap}
use Rattle.std.proofs.Common.{subst, ◌∙◌, zero-add, arith}
use Rattle.std.proofs.Math.Bool.{Bool, not}
use mathlib.Core.List.{List, [], ◌∷◌}
use Prim.Native.Nat.{ℕ, zero, suc, ◌+◌, ◌-◌, ◌≤◌}
use Rattle.std.proofs.Math.Nat.{add-zero}
use borrow.Author.Tests.{not-true}
use Rattle.std.proofs.Math.Dec.{eqb-suc-zero}
use Rattle.words.specs.Put.{put, put_front, length_put, take_put}
use Rattle.questions.specs.Question.{Question, ask, first_no, yes_here}
use Rattle.replies.specs.Replies.{reply_of, reply_number, words_after}
use Rattle.replies.specs.Later.{asked_on}
use Rattle.timetable.specs.Timetable.{Trip, Timetable, valid}
use Rattle.timetable.specs.Words.{words, timetable_of, is_timetable}
use Rattle.timetable.specs.Changes.{runs_as, cancelled, added}
use Rattle.text.specs.Piece.{pieces}
use Rattle.text.specs.Time.{time_value}
use Rattle.text_shapes.specs.Shape.{shape_by}
use Rattle.reading_lines.specs.Draft.{Draft, Rules, opening, number_under, with_line}
use Rattle.reading.specs.Reading.{Outcome, Accepted, Refused, complete, ended, read_under, read_extra}
use Rattle.reading.specs.Reading.{number_of as line_number_of}
use Rattle.accepted.specs.Fits.{words_most_lem}
use Rattle.accepted.specs.Question9.{valid_yes, valid_spells}
use Rattle.accepted.specs.Changed.{cancelled_valid}
use Rattle.accepted.specs.Extra.{extra_valid}
use Rattle.lines_tables.specs.Building.{slices_least, line_count}
use Rattle.lines_tables.specs.Tables.{table_words}
use Rattle.lines_check.specs.Question10.{are_tables, tables_questions}
use Rattle.lines_check.specs.Yes.{tables_asked}
use Rattle.lines_check.specs.Built.{begins_holds, tables_fit}
use Rattle.demands.specs.Demands.{DemandThree}
use Rattle.demands.specs.Proofs.{demand_three}
use Rattle.promises.specs.Packed.{packed_reply, packed_count, succeeds_reply, succeeds_count}
use Rattle.promises.specs.Changes.{
  cancel_number,
  cancel_reply,
  cancel_timetable,
  cancel_lines,
  add_number,
  add_outcome,
  reply_to,
  add_reply,
  add_timetable,
  add_lines,
}
use Rattle.promises.specs.Promises.{
  CancelCall,
  AddCall,
  Succeeds,
  refusal,
  Refuses,
  Running,
  none_yet,
  one_cancelled,
  one_added,
  Afresh,
  ChangePromises,
}
use Rattle.promises.proofs.FromWords.{asked_zero, tables_yes}
use Rattle.promises.proofs.FromAfresh.{
  afresh_valid,
  direct_shows,
  query_shows,
  kept_shows,
  store_stores,
  store_holds,
  store_well_made,
}
use Rattle.promises.proofs.Proved.{begins_again, loaded_afresh}

-- ---- words put at the front of both slices
module _ (plan : Timetable) (timetable lines : List ℕ) (long-timetable : slices_least ≤ length timetable)
    (long-lines : slices_least ≤ length lines) (v : valid plan ≡ true) where
  abbrev past : List ℕ
  past = drop (length (words plan)) timetable

  put_spells : timetable_of (put 0 (words plan) timetable) ≡ plan
  put_spells = ap timetable_of (put_front (words plan) timetable) ∙ valid_spells plan past v

  put_yes : is_timetable (put 0 (words plan) timetable) ≡ true
  put_yes = ap is_timetable (put_front (words plan) timetable) ∙ valid_yes plan past v

  tables_few : length (table_words plan) ≤ slices_least
  tables_few =
      subst (λ p. length (table_words p) ≤ slices_least) put_spells (tables_fit (put 0 (words plan) timetable) put_yes)

  put_tables : are_tables (put 0 (words plan) timetable) (put 0 (table_words plan) lines) ≡ true
  put_tables =
      (begins_holds (put 0 (table_words plan) lines) (timetable_of (put 0 (words plan) timetable))).1
      (record {
        is = rw put_spells (take_put (table_words plan) lines);
      })

  put_afresh : Afresh plan (put 0 (words plan) timetable) (put 0 (table_words plan) lines)
  put_afresh =
      record {
        words_are = begins_again (words plan) _ past (put_front (words plan) timetable);
        tables_are = begins_again (table_words plan) _ _ (put_front (table_words plan) lines);
        spells = put_spells;
        timetable_long =
            omega (arith, length_put 0 (words plan) timetable (omega (arith, words_most_lem plan v)));
        lines_long = omega (arith, length_put 0 (table_words plan) lines (omega (arith, tables_few)));
        yes_9 = put_yes;
        yes_10 = put_tables;
      }

-- ---- no line of an extra trip is refused with number 0
abbrev number_in : Outcome → ℕ
number_in (Accepted one lines) = 1
number_in (Refused number line) = number

some_number : (n line : ℕ) (rest : Outcome) → 1 ≤ number_in rest → 1 ≤ number_in (cond (eqb n 0) rest (Refused n line))
some_number zero line rest h = h
some_number (suc n) line rest h = rw (eqb-suc-zero n) (omega arith)

either_number : (test : Bool) (a b : Outcome) → 1 ≤ number_in a → 1 ≤ number_in b → 1 ≤ number_in (cond test a b)
either_number true a b h g = h
either_number false a b h g = g

module _ (r : Rules) (time : List ℕ → ℕ) where
  ended_number : (d : Draft) (line : ℕ) → 1 ≤ number_in (ended r d line)
  unfolding ended
  ended_number d line =
      either_number (complete r d) (Accepted _ (line - 1)) (Refused 7 line) (omega arith) (omega arith)

  under_number : (d : Draft) (line : ℕ) (l : List (List ℕ)) → 1 ≤ number_in (read_under r time d line l)
  unfolding read_under
  under_number d line [] = ended_number d line
  under_number d line (s ∷ []) =
      either_number (eqb (length s) 0) (ended r d line) (Refused 2 line) (ended_number d line) (omega arith)
  under_number d line (s ∷ u ∷ l) =
      let after = with_line d (shape_by time s) in
      some_number (number_under r d (shape_by time s)) line (read_under r time after (line + 1) (u ∷ l))
      (under_number after (line + 1) (u ∷ l))

extra_number_lem : (t : Timetable) (n : ℕ) (text : List ℕ) → 1 ≤ number_in (read_extra t n text)
unfolding read_extra
extra_number_lem t n text = under_number _ time_value (opening t.stations) 1 (pieces 10 text)

-- ---- one change to words and line tables that are afresh
module _ (plan : Timetable) (timetable lines : List ℕ) (now : Afresh plan timetable lines) (work trip : ℕ) where
  module _ (timetable-after lines_after : List ℕ) (reply : ℕ)
      (call : CancelCall timetable lines work trip timetable-after lines_after reply) (done : Succeeds reply) where
    cancel_zero : cancel_number timetable lines work trip ≡ 0
    unfolding cancel_reply
    cancel_zero =
        sym (reply_number (cancel_number timetable lines work trip)
        (line_count (cancelled (timetable_of timetable) trip)))
        ∙ succeeds_count (cancel_reply timetable lines work trip) (subst Succeeds call.replies done)

    cancel_timetable_lem : timetable-after ≡ put 0 (words (cancelled plan trip)) timetable
    unfolding cancel_timetable words_after
    cancel_timetable_lem = call.writes_timetable ∙ rw (cancel_zero, now.spells)

    cancel_lines_lem : lines_after ≡ put 0 (table_words (cancelled plan trip)) lines
    unfolding cancel_lines words_after
    cancel_lines_lem = call.writes_lines ∙ rw (cancel_zero, now.spells)

    cancel_afresh : Afresh (cancelled plan trip) timetable-after lines_after
    cancel_afresh =
        rw (cancel_timetable_lem, cancel_lines_lem)
        (put_afresh (cancelled plan trip) timetable lines now.timetable_long now.lines_long
        (cancelled_valid plan trip (afresh_valid plan timetable lines now)))

    cancel_count : reply ≡ line_count (cancelled plan trip)
    unfolding cancel_reply packed_count reply_of
    cancel_count =
        call.replies ∙ rw (cancel_zero, now.spells) (zero-add (line_count (cancelled plan trip)))

  module _ (text timetable-after lines_after : List ℕ) (reply : ℕ)
      (call : AddCall timetable lines work trip text timetable-after lines_after reply) (done : Succeeds reply) where
    add_none : add_number timetable lines work trip ≡ 0
    unfolding add_reply add_outcome
    add_none =
        none (add_number timetable lines work trip)
        (succeeds_reply (add_reply timetable lines work trip text) (subst Succeeds call.replies done))
      where
        number_from : (test : Bool) (n : ℕ) → ℕ
        number_from test n =
            line_number_of
            (reply_to timetable trip (cond test (read_extra (timetable_of timetable) trip text) (Refused n 0)))

        none : (n : ℕ) → number_from (eqb n 0) n ≡ 0 → n ≡ 0
        none zero e = refl
        none (suc n) e = absurd (omega (arith, sym (ap (λ b. number_from b (suc n)) (eqb-suc-zero n)) ∙ e))

    add_accepted : (one : Timetable) × (text_lines : ℕ) × (read_extra plan trip text ≡ Accepted one text_lines)
    unfolding add_reply add_outcome
    add_accepted =
        accepted (read_extra plan trip text) refl (extra_number_lem plan trip text)
        (rw (add_none, now.spells) at
        (succeeds_reply (add_reply timetable lines work trip text) (subst Succeeds call.replies done)))
      where
        accepted : (x : Outcome) → read_extra plan trip text ≡ x → 1 ≤ number_in x
            → line_number_of (reply_to timetable trip x) ≡ 0
            → (one : Timetable) × (text_lines : ℕ) × (read_extra plan trip text ≡ Accepted one text_lines)
        accepted (Accepted one text_lines) e h g = (one, text_lines, e)
        accepted (Refused number line) e h g = absurd (omega arith)

    module _ (one : Timetable) (text_lines : ℕ) (read : read_extra plan trip text ≡ Accepted one text_lines) where
      abbrev more : Timetable
      more = added plan trip (get_or one.trips 0 [])

      outcome_is : add_outcome timetable lines work trip text ≡ Accepted one text_lines
      unfolding add_outcome
      outcome_is = rw (add_none, now.spells) read

      add_timetable_lem : timetable-after ≡ put 0 (words more) timetable
      unfolding add_timetable
      add_timetable_lem = call.writes_timetable ∙ rw (outcome_is, now.spells)

      add_lines_lem : lines_after ≡ put 0 (table_words more) lines
      unfolding add_lines
      add_lines_lem = call.writes_lines ∙ rw (outcome_is, now.spells)

      add_free : runs_as trip plan.numbers ≡ false
      unfolding add_number
      add_free =
          let questions = ask 19 (not (runs_as trip (timetable_of timetable).numbers)) ∷ [] in
          let tables = tables_questions timetable lines work in
          let asked = tables_asked timetable lines work in
          let last = sym (asked_on tables questions asked (asked_zero tables questions asked add_none)) ∙ add_none in
          ap (λ p. runs_as trip p.numbers) (sym now.spells) ∙ not-true _ (yes_here 18 _ [] last)

      add_afresh : Afresh more timetable-after lines_after
      add_afresh =
          rw (add_timetable_lem, add_lines_lem)
          (put_afresh more timetable lines now.timetable_long now.lines_long
          (extra_valid plan trip text (afresh_valid plan timetable lines now) one text_lines read add_free))

      add_count : reply ≡ line_count more
      unfolding add_reply packed_reply
      add_count =
          call.replies ∙ rw (outcome_is, now.spells) (zero-add (line_count more + 0) ∙ add-zero (line_count more))

  -- ---- turned away
  module _ (enough : slices_least ≤ work) where
    abbrev tables : List Question
    tables = tables_questions timetable lines work

    all_yes : first_no tables ≡ 0
    all_yes = tables_yes timetable lines now.timetable_long now.lines_long now.yes_9 now.yes_10 work enough

    eighteen : runs_as trip plan.numbers ≡ false → cancel_number timetable lines work trip ≡ 18
    unfolding cancel_number
    eighteen f =
        let runs : Bool = runs_as trip (timetable_of timetable).numbers in
        asked_on tables (ask 18 runs ∷ []) (tables_asked timetable lines work) all_yes ∙ rw (now.spells, f)

    cancel_away : runs_as trip plan.numbers ≡ false → (timetable-after lines_after : List ℕ) (reply : ℕ)
        → CancelCall timetable lines work trip timetable-after lines_after reply
        → Refuses 18 timetable timetable-after reply × Refuses 18 lines lines_after reply
    unfolding cancel_reply cancel_timetable cancel_lines packed_count reply_of words_after
    cancel_away f timetable-after lines_after reply call =
        let number = eighteen f in
        let replied : reply ≡ refusal 18 = call.replies ∙ rw number in (
          record { replies = replied; writes = call.writes_timetable ∙ rw number },
          record { replies = replied; writes = call.writes_lines ∙ rw number },
        )

    nineteen : runs_as trip plan.numbers ≡ true → add_number timetable lines work trip ≡ 19
    unfolding add_number
    nineteen f =
        let free : Bool = not (runs_as trip (timetable_of timetable).numbers) in
        asked_on tables (ask 19 free ∷ []) (tables_asked timetable lines work) all_yes ∙ rw (now.spells, f)

    add_away : runs_as trip plan.numbers ≡ true → (text timetable-after lines_after : List ℕ) (reply : ℕ)
        → AddCall timetable lines work trip text timetable-after lines_after reply
        → Refuses 19 timetable timetable-after reply × Refuses 19 lines lines_after reply
    unfolding add_reply add_timetable add_lines add_outcome packed_reply
    add_away f text timetable-after lines_after reply call =
        let number = nineteen f in
        let replied : reply ≡ refusal 19 = call.replies ∙ rw number in (
          record { replies = replied; writes = call.writes_timetable ∙ rw number },
          record { replies = replied; writes = call.writes_lines ∙ rw number },
        )

-- ---- no change adds or takes away a station
stations_cancelled : (plan : Timetable) (trip : ℕ) → (cancelled plan trip).stations ≡ plan.stations
unfolding cancelled
stations_cancelled plan trip = refl

stations_added : (plan : Timetable) (trip : ℕ) (one : Trip) → (added plan trip one).stations ≡ plan.stations
unfolding added
stations_added plan trip one = refl

-- ---- any changes
running_afresh : {plan : Timetable} {timetable lines : List ℕ} → Running plan timetable lines
    → Afresh plan timetable lines
running_afresh (none_yet text plan timetable lines l) = loaded_afresh text plan timetable lines l
running_afresh (one_cancelled plan timetable lines work trip timetable-after lines_after reply r call done) =
    cancel_afresh plan timetable lines (running_afresh r) work trip timetable-after lines_after reply call done
running_afresh (one_added plan timetable lines work trip text timetable-after lines_after reply r call done one n e) =
    add_afresh plan timetable lines (running_afresh r) work trip text timetable-after lines_after reply call done
    one n e

three : (plan : Timetable) (timetable lines : List ℕ) → Running plan timetable lines → DemandThree plan
three plan timetable lines r =
    demand_three plan (subst T (sym (afresh_valid plan timetable lines (running_afresh r))) tt)

pub change_promises : ChangePromises
change_promises =
    record {
      changed_words = λ plan timetable lines r. running_afresh r;
      adds =
          λ plan timetable lines r work trip.
          add_accepted plan timetable lines (running_afresh r) work trip;
      cancel_turned_away =
          λ plan timetable lines r work trip.
          cancel_away plan timetable lines (running_afresh r) work trip;
      add_turned_away =
          λ plan timetable lines r work trip.
          add_away plan timetable lines (running_afresh r) work trip;
      cancel_counts =
          λ plan timetable lines r work trip.
          cancel_count plan timetable lines (running_afresh r) work trip;
      add_counts =
          λ plan timetable lines r work trip.
          add_count plan timetable lines (running_afresh r) work trip;
      direct_shows_changed =
          λ plan timetable lines r work from to minute enough q.
          direct_shows plan timetable lines (running_afresh r) from to minute q work enough;
      rebuilt_stores = λ plan timetable lines r. store_stores plan timetable lines (running_afresh r);
      rebuilt_holds = λ plan timetable lines r. store_holds plan timetable lines (running_afresh r);
      rebuilt_shows =
          λ plan timetable lines r work from to minute enough q store made before after reply call.
          query_shows plan timetable lines (running_afresh r) from to minute q work enough before after reply store
          call made;
      changed_list = λ plan timetable lines r. (three plan timetable lines r).listed;
      kept_shows_changed =
          λ plan timetable lines r work from to minute enough q store well before after reply call.
          kept_shows plan timetable lines (running_afresh r) from to minute q work enough before after reply store
          call well;
      made_well_made = λ plan timetable lines r. store_well_made plan timetable lines (running_afresh r);
      cancelled_stations = stations_cancelled;
      added_stations = stations_added;
      kept_list_changed = λ plan timetable lines r. (three plan timetable lines r).kept;
    }

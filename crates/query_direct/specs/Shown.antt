-- What the code finds in line tables that belong to the timetable are the rows of the direct query.
use Rattle.std.specs.Prelude.{◌≡◌, refl, ◌↔◌, List, [], ◌∷◌, map, ℕ, zero, suc, ◌*◌, ◌≤◌}
use Rattle.std.proofs.Math.Path.{sym, ap}
use Rattle.std.proofs.Common.{◌∙◌, arith}
use Rattle.std.proofs.Math.Bool.{true}
use borrow.Author.Tests.{le-leb, leb-true}
use Rattle.std.proofs.Math.Dec.{leb}
use Rattle.std.proofs.Math.ListN.{length}
use Rattle.questions.specs.Question.{ask, first_no}
use Rattle.lists.specs.Places.{no_length}
use Rattle.lists.specs.Tests.{same_tests}
use Rattle.replies.specs.Reply.{Reply}
use Rattle.replies.specs.Reply.{Refused}
use Rattle.replies.specs.Replies.{reply_of, words_after, reply_refused, words_kept}
use Rattle.replies.specs.Later.{asked_on, asked_out}
use Rattle.timetable.specs.Timetable.{Timetable, valid}
use Rattle.timetable.specs.Words.{timetable_of, is_timetable}
use Rattle.timetable.specs.Access.{spelled_valid}
use Rattle.results.specs.Results.{Cost, costs}
use Rattle.connections.specs.Rides.{Ride}
use Rattle.connections.specs.Connections.{direct}
use Rattle.connections.specs.Planner.{measure}
use Rattle.lines_lookup.specs.Told.{Told}
use Rattle.lines_lookup.specs.Holding.{holding}
use Rattle.lines.specs.DirectRides.{direct_rows}
use Rattle.lines_check.specs.Question10.{are_tables}
use Rattle.lines_check.specs.Asked.{query_questions, query_number}
use Rattle.lines_check.specs.Yes.{Yes, query_asked, yes_all}
use Rattle.lines_check.specs.Built.{begins_holds}
use Rattle.promises.specs.Query.{row_words}
use Rattle.promises.specs.DirectQuery.{rides, rows, last_questions, direct_number, direct_reply, direct_words}
use Rattle.query_places.specs.Candidates.{first_read, near_read}
use Rattle.query_minutes.specs.Minutes.{no_points, note_all, blank, leads}
use Rattle.query_kept.specs.Choosing.{rows_from}
use Rattle.query_direct.specs.Chosen.{rows_chosen, rows_count, none_chosen, rows_long}
use Rattle.query_nearest.specs.Gathered.{read_costs, first_bounds, near_bounds, near_rows, near_none}

-- the least penalties that are noted, from the first trips of the lines
abbrev pub best_of : (v : List ℕ) (a b u : ℕ) → List ℕ
best_of v a b u = note_all blank (first_read v a u b)

module _
    (w v : List ℕ)
    (a b u : ℕ)
    (accepted : is_timetable w ≡ true)
    (own : are_tables w v ≡ true)
    (some : 1 ≤ a)
    (inside : a ≤ length (timetable_of w).stations)
  where
    abbrev t : Timetable
    t = timetable_of w

    told : Told v t
    told = holding v t ((begins_holds v t).0 own)

    abbrev firsts : List Ride
    firsts = first_read v a u b

    abbrev near : List Ride
    near = near_read v a u b

    is_valid : valid t ≡ true
    is_valid = spelled_valid w accepted

    same_costs : costs (measure u) (map direct firsts) ≡ costs (measure u) (map direct near)
    same_costs = read_costs v t told a u b some inside is_valid

    pub shown_rows : rows_from u (near_read v a u b) (leads no_points 0 (best_of v a b u)) ≡ rows w a b u
    unfolding direct_rows
    shown_rows =
        rows_chosen u firsts near (map direct near) (λ c. (λ m. m, λ m. m)) same_costs
        (first_bounds v t told a u b some inside is_valid)
        (near_bounds v t told a u b some inside is_valid)
        ∙ near_rows v t told a u b some inside is_valid

    pub shown_count : length (leads no_points 0 (best_of v a b u)) ≡ length (rows w a b u)
    unfolding direct_rows
    shown_count =
        rows_count u firsts near (map direct near) (λ c. (λ m. m, λ m. m)) same_costs
        (first_bounds v t told a u b some inside is_valid)
        (near_bounds v t told a u b some inside is_valid)
        ∙ ap length (near_rows v t told a u b some inside is_valid)

    none : (leads no_points 0 (best_of v a b u) ≡ []) ↔ (rides w a b u ≡ [])
    none =
        let chosen =
        none_chosen u firsts near (map direct near) (λ c. (λ m. m, λ m. m)) same_costs
        (first_bounds v t told a u b some inside is_valid)
        (near_bounds v t told a u b some inside is_valid) in
        let all = near_none v t told a u b some inside is_valid in
        (λ e. all.0 (chosen.0 e), λ e. chosen.1 (all.1 e))

    pub shown_none : length (leads no_points 0 (best_of v a b u)) ≡ 0 → length (rides w a b u) ≡ 0
    shown_none e = ap length (none.0 (no_length (leads no_points 0 (best_of v a b u)) e))

    pub shown_some : 1 ≤ length (leads no_points 0 (best_of v a b u)) → 1 ≤ length (rides w a b u)
    shown_some h = go (rides w a b u) refl
      where
        go : (l : List _) → rides w a b u ≡ l → 1 ≤ length (rides w a b u)
        go [] e = absurd (omega (arith, ap length (none.1 e)))
        go (c ∷ l) e = omega (arith, ap length e)

    pub shown_long : length (row_words (rows w a b u)) ≡ 6 * length (leads no_points 0 (best_of v a b u))
    shown_long =
        ap (λ l. length (row_words l)) (sym shown_rows)
        ∙ rows_long u (near_read v a u b) (leads no_points 0 (best_of v a b u))

-- ---- the same as questions: 14 and 15 come after all others
abbrev pub leads_of : (v : List ℕ) (a b u : ℕ) → List Cost
leads_of v a b u = leads no_points 0 (best_of v a b u)

unfoldable pub found_number : (v : List ℕ) (a b u m : ℕ) → ℕ
found_number v a b u m =
    first_no
    (ask 14 (leb 1 (length (leads_of v a b u))) ∷ ask 15 (leb (6 * length (leads_of v a b u)) m) ∷ [])

abbrev pub found_words : (v : List ℕ) (a b u : ℕ) → List ℕ
found_words v a b u = row_words (rows_from u (near_read v a u b) (leads_of v a b u))

unfoldable pub found_reply : (v : List ℕ) (a b u m : ℕ) → Reply
found_reply v a b u m = reply_of (found_number v a b u m) (length (leads_of v a b u))

unfoldable pub found_answer : (v : List ℕ) (a b u : ℕ) (old : List ℕ) → List ℕ
found_answer v a b u old = words_after (found_number v a b u (length old)) (found_words v a b u) old

-- a refusal among questions 8 to 12 is the call's
module _ (w v : List ℕ) (n a b u k : ℕ) (out : suc k ≡ query_number w v n a b u) where
  refused : (m : ℕ) → suc k ≡ direct_number w v n a b u m
  unfolding direct_number query_number
  refused m = sym (asked_out (query_questions w v n a b u) (last_questions w a b u m) (query_asked w v n a b u) k out)

  refused_reply : (m : ℕ) → Refused (suc k) ≡ direct_reply w v n a b u m
  unfolding direct_reply
  refused_reply m = reply_refused (direct_number w v n a b u m) (length (rows w a b u)) k (refused m)

  refused_words : (old : List ℕ) → old ≡ direct_words w v n a b u old
  unfolding direct_words
  refused_words old =
      words_kept (direct_number w v n a b u (length old)) (row_words (rows w a b u)) old k (refused (length old))

module _ (w v : List ℕ) (n a b u number : ℕ) (is : number ≡ query_number w v n a b u) (denied : number ≡ 0 → ⊥) where
  pub asked_reply : (m : ℕ) → Refused number ≡ direct_reply w v n a b u m
  asked_reply m = go number is denied
    where
      go : (k : ℕ) → k ≡ query_number w v n a b u → (k ≡ 0 → ⊥) → Refused k ≡ direct_reply w v n a b u m
      go zero e h = absurd (h refl)
      go (suc k) e h = refused_reply w v n a b u k e m

  pub asked_words : (old : List ℕ) → old ≡ direct_words w v n a b u old
  asked_words old = go number is denied
    where
      go : (k : ℕ) → k ≡ query_number w v n a b u → (k ≡ 0 → ⊥) → old ≡ direct_words w v n a b u old
      go zero e h = absurd (h refl)
      go (suc k) e h = refused_words w v n a b u k e old

-- where none is refused, the reply is what is found in the tables
module _ (w v : List ℕ) (n a b u number : ℕ) (is : number ≡ query_number w v n a b u) (none_denied : number ≡ 0) where
  all_yes : first_no (query_questions w v n a b u) ≡ 0
  unfolding query_number
  all_yes = sym is ∙ none_denied

  answers : Yes w v n a b u
  answers = yes_all w v n a b u (sym is ∙ none_denied)

  same_number : (m : ℕ) → found_number v a b u m ≡ direct_number w v n a b u m
  unfolding found_number direct_number
  same_number m =
      let y = answers in
      let first = same_tests (leb 1 (length (leads_of v a b u))) (leb 1 (length (rides w a b u))) to from in
      let long = sym (shown_long w v a b u y.accepted y.own y.some y.inside) in
      (λ i. first_no (ask 14 (first i) ∷ ask 15 (leb (long i) m) ∷ []))
      ∙ sym (asked_on (query_questions w v n a b u) (last_questions w a b u m) (query_asked w v n a b u) all_yes)
    where
      to : leb 1 (length (leads_of v a b u)) ≡ true → leb 1 (length (rides w a b u)) ≡ true
      to e =
          let y = answers in
          le-leb 1 _ (shown_some w v a b u y.accepted y.own y.some y.inside (leb-true 1 _ e))

      from : leb 1 (length (rides w a b u)) ≡ true → leb 1 (length (leads_of v a b u)) ≡ true
      from e = go (length (leads_of v a b u)) refl
        where
          go : (k : ℕ) → length (leads_of v a b u) ≡ k → leb 1 (length (leads_of v a b u)) ≡ true
          go zero h =
              let y = answers in
              let gone = shown_none w v a b u y.accepted y.own y.some y.inside h in
              absurd (omega (arith, leb-true 1 (length (rides w a b u)) e))
          go (suc k) h = le-leb 1 (length (leads_of v a b u)) (omega arith)

  pub found_reply_lem : (m : ℕ) (r : Reply) → r ≡ found_reply v a b u m → r ≡ direct_reply w v n a b u m
  unfolding found_reply direct_reply
  found_reply_lem m r e =
      let y = answers in
      let count = shown_count w v a b u y.accepted y.own y.some y.inside in
      e ∙ (λ i. reply_of (same_number m i) (count i))

  pub found_words_lem : (old new : List ℕ) → new ≡ found_answer v a b u old → new ≡ direct_words w v n a b u old
  unfolding found_answer direct_words
  found_words_lem old new e =
      let y = answers in
      let these = shown_rows w v a b u y.accepted y.own y.some y.inside in
      e ∙ (λ i. words_after (same_number (length old) i) (row_words (these i)) old)

-- What a call knows once its questions about the slices, the timetable, the tables and the query all have their yes.
use Rattle.std.specs.Prelude.{◌≡◌, Bool, true, not, ◌&&◌, ℕ, ◌≤◌, leb, eqb, length}
use mathlib.Core.List.{List, [], ◌∷◌}
use borrow.Author.Tests.{leb-true}
use Rattle.questions.specs.Question.{Question, ask, yes_here, yes_later}
use Rattle.lists.specs.Tests.{and_left, and_right}
use Rattle.replies.specs.Later.{Asked, asked_none, asked_more}
use Rattle.timetable.specs.Timetable.{Timetable, last_minute}
use Rattle.timetable.specs.Words.{timetable_of, is_timetable}
use Rattle.lines_tables.specs.Building.{slices_least}
use Rattle.lines_check.specs.Question10.{are_tables, tables_questions}
use Rattle.lines_check.specs.Asked.{listed, named, query_questions, query_number}

module _ (w v : List ℕ) (n : ℕ) where
  abbrev pub long : Bool
  long = leb slices_least (length w) && leb slices_least (length v) && leb slices_least n

  pub tables_asked : Asked (tables_questions w v n)
  tables_asked =
      asked_more 7 long (ask 9 (is_timetable w) ∷ ask 10 (are_tables w v) ∷ [])
      (asked_more 8 (is_timetable w) (ask 10 (are_tables w v) ∷ []) (asked_more 9 (are_tables w v) [] asked_none))

  -- the slices are long enough
  pub record Long : Type 0 where
    pub words : 16384 ≤ length w
    pub tables : 16384 ≤ length v
    pub work : 16384 ≤ n

  pub long_all : long ≡ true → Long
  long_all e =
      let two = and_left (leb slices_least (length w) && leb slices_least (length v)) (leb slices_least n) e in
      record {
        words = leb-true 16384 (length w) (and_left (leb slices_least (length w)) (leb slices_least (length v)) two);
        tables = leb-true 16384 (length v) (and_right (leb slices_least (length w)) (leb slices_least (length v)) two);
        work =
            leb-true 16384 n
            (and_right (leb slices_least (length w) && leb slices_least (length v)) (leb slices_least n) e);
      }

  module _ (a b u : ℕ) where
    abbrev t : Timetable
    t = timetable_of w

    abbrev last : List Question
    last = ask 12 (leb u last_minute) ∷ []

    abbrev both : List Question
    both = ask 11 (named t a b) ∷ last

    abbrev three : List Question
    three = ask 10 (are_tables w v) ∷ both

    pub query_asked : Asked (query_questions w v n a b u)
    query_asked =
        asked_more 7 long (ask 9 (is_timetable w) ∷ three)
        (asked_more 8 (is_timetable w) three
        (asked_more 9 (are_tables w v) both
        (asked_more 10 (named t a b) last (asked_more 11 (leb u last_minute) [] asked_none))))

    pub record Yes : Type 0 where
      pub slices : Long
      pub accepted : is_timetable w ≡ true
      pub own : are_tables w v ≡ true
      pub some : 1 ≤ a
      pub inside : a ≤ length t.stations
      pub minute : u ≤ last_minute

    pub yes_all : query_number w v n a b u ≡ 0 → Yes
    unfolding query_number named listed
    yes_all e =
        let nine = yes_later 7 long (ask 9 (is_timetable w) ∷ three) e in
        let ten = yes_later 8 (is_timetable w) three nine in
        let eleven = yes_later 9 (are_tables w v) both ten in
        let names = yes_here 10 (named t a b) last eleven in
        let stations = and_left (listed t a && listed t b) (not (eqb a b)) names in
        let first = and_left (listed t a) (listed t b) stations in
        record {
          slices = long_all (yes_here 7 long (ask 9 (is_timetable w) ∷ three) e);
          accepted = yes_here 8 (is_timetable w) three nine;
          own = yes_here 9 (are_tables w v) both ten;
          some = leb-true 1 a (and_left (leb 1 a) (leb a (length t.stations)) first);
          inside = leb-true a (length t.stations) (and_right (leb 1 a) (leb a (length t.stations)) first);
          minute = leb-true u last_minute (yes_here 11 (leb u last_minute) [] (yes_later 10 (named t a b) last eleven));
        }

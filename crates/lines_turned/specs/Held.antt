-- Words that hold the line tables of a timetable that question 9 has a yes for: what code may go by.
use Rattle.std.specs.Prelude.{◌≡◌, Bool, true, false, not, List, ℕ, length, take}
use Rattle.std.proofs.Common.{sym, ap, ◌∙◌}
use Rattle.std.proofs.lemmas.Bool.{not-false}
use Rattle.words.specs.Put.{put, take_put}
use Rattle.timetable.specs.Words.{timetable_of, is_timetable}
use Rattle.lines_tables.specs.Tables.{table_words}
use Rattle.lines_tables.specs.Model.{table_at}
use Rattle.lines_tables.proofs.Same.{same_tables}
use Rattle.lines_lookup.specs.Told.{Holds}
use Rattle.lines_check.specs.Question10.{are_tables}
use Rattle.lines_check.specs.Built.{begins_holds}

pub record Held (w v : List ℕ) : Type 0 where
  pub accepted : is_timetable w ≡ true
  pub holds : Holds v (timetable_of w)

-- where question 10 has its yes
pub held_own : (w v : List ℕ) (r : Bool) → is_timetable w ≡ true → r ≡ are_tables w v → not r ≡ false → Held w v
held_own w v r accepted is-r agreed =
    record {
      accepted = accepted;
      holds = (begins_holds v (timetable_of w)).0 (sym is-r ∙ not-false r agreed);
    }

-- where they were written
pub held_written : (w old v : List ℕ) → is_timetable w ≡ true → v ≡ put 0 (table_at w) old → Held w v
held_written w old v accepted written =
    record {
      accepted = accepted;
      holds =
          record {
            is =
                ap (take (length (table_words (timetable_of w))))
                (written ∙ ap (λ x. put 0 x old) (same_tables w accepted))
                ∙ take_put (table_words (timetable_of w)) old;
          };
    }

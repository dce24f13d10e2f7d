-- What holds of a draft and stays with each line that has its yes holds of the draft at the end of the lines, whatever
-- rules they are read by. `Sound` and `Extra` use this for a text and for an extra trip.
use Rattle.std.specs.Prelude.{◌≡◌, refl, Bool, true, false, cond, ℕ, ◌+◌, ◌-◌, eqb, length}
use Rattle.std.proofs.Math.Path.{sym}
use Rattle.std.proofs.Common.{◌∙◌, eqb-true}
use mathlib.Core.List.{List, [], ◌∷◌}
use Rattle.text_shapes.specs.Shape.{shape_by}
use Rattle.text_shapes.specs.declared.Line.{Line}
use Rattle.timetable.specs.Timetable.{Timetable}
use Rattle.reading_lines.specs.Draft.{Draft, Rules, with_line}
use Rattle.reading_lines.specs.Progress.{progress, line_number_at}
use Rattle.reading.specs.Reading.{Outcome, Accepted, Refused, complete, numbers_under, ended, read_under}
use Rattle.accepted.specs.Passes.{read_more}
use Rattle.accepted.specs.Shaped.{Shaped, shaped}

-- what is accepted had a yes
pub accepted_test : (test : Bool) (x : Outcome) (k l : ℕ) (t : Timetable) (n : ℕ)
    → cond test x (Refused k l) ≡ Accepted t n → test ≡ true
accepted_test true x k l t n e = refl
accepted_test false x k l t n e = cc

pub accepted_yes : (test : Bool) (x : Outcome) (k l : ℕ) (t : Timetable) (n : ℕ)
    → cond test x (Refused k l) ≡ Accepted t n → x ≡ Accepted t n
accepted_yes true x k l t n e = e
accepted_yes false x k l t n e = cc

-- the timetable of a draft
abbrev pub whole_of : Rules → Draft → Timetable
whole_of r d =
    record {
      stations = d.stations;
      walks = d.walks;
      numbers = numbers_under r d.trips;
      trips = d.trips;
    }

-- an accepted timetable is that of a draft of which P holds
pub record EndsWith (r : Rules) (P : Draft → Type 0) (t : Timetable) : Type 0 where
  pub draft : Draft
  pub holds : P draft
  pub complete : complete r draft ≡ true
  pub is : whole_of r draft ≡ t

module _ (r : Rules) (P : Draft → Type 0)
    (step : (d : Draft) (line : Line) → Shaped line → line_number_at r (progress d) line ≡ 0 → P d → P
    (with_line d line))
  where
    ended_with : (d : Draft) (line : ℕ) (t : Timetable) (n : ℕ) → P d → ended r d line ≡ Accepted t n
        → EndsWith r P t
    unfolding ended
    ended_with d line t n h e =
        let it : Accepted (whole_of r d) (line - 1) ≡ Accepted t n =
        accepted_yes (complete r d) (Accepted (whole_of r d) (line - 1)) 7 line t n e in
        record {
          draft = d;
          holds = h;
          complete = accepted_test (complete r d) (Accepted (whole_of r d) (line - 1)) 7 line t n e;
          is = cc it;
        }

    pub lines_kept : (time : List ℕ → ℕ) (d : Draft) (line : ℕ) (l : List (List ℕ)) (t : Timetable) (n : ℕ) → P d
        → read_under r time d line l ≡ Accepted t n → EndsWith r P t
    unfolding read_under
    lines_kept time d line [] t n h e = ended_with d line t n h e
    lines_kept time d line (s ∷ []) t n h e =
        ended_with d line t n h (accepted_yes (eqb (length s) 0) (ended r d line) 2 line t n e)
    lines_kept time d line (s ∷ u ∷ l) t n h e =
        let number = line_number_at r (progress d) (shape_by time s) in
        let rest = read_under r time (with_line d (shape_by time s)) (line + 1) (u ∷ l) in
        let reads = sym (read_more r time d line s u l) ∙ e in
        lines_kept time (with_line d (shape_by time s)) (line + 1) (u ∷ l) t n
        (step d (shape_by time s) (shaped time s)
        (eqb-true number 0 (accepted_test (eqb number 0) rest number line t n reads)) h)
        (accepted_yes (eqb number 0) rest number line t n reads)

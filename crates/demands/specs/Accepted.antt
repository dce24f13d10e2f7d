-- "Whatever accepted timetable is loaded": from the text that reading accepts to demands 2 and 3, with no premise in
-- between. "That 9, 10 and 13 have their yes for what reading, building and a store call wrote for this timetable, with
-- number 0, is part of the claim and no premise": 9 stands here, 13 in DemandThree; the crate promises has all three,
-- for the calls as they are.
use Rattle.std.specs.Prelude.{◌≡◌, true, List, ℕ, ◌≤◌, T, length}
use Rattle.std.proofs.Common.{sym, subst}
use Rattle.timetable.specs.Timetable.{Timetable, valid}
use Rattle.timetable.specs.Words.{timetable_of, is_timetable}
use Rattle.reading.specs.Reading.{Accepted, reading, slices_least, read_reply, read_words, number_of}
use Rattle.accepted.specs.Sound.{accepted_valid}
use Rattle.accepted.specs.Question9.{read_has_yes, read_spells, number_zero}
use Rattle.demands.specs.Demands.{DemandTwo, DemandThree}
use Rattle.demands.specs.Proofs.{demand_two, demand_three}

-- what holds of a text and the timetable that it is read to
pub record Loaded (text : List ℕ) (t : Timetable) : Type 0 where
  pub two : DemandTwo t
  pub three : DemandThree t
  -- 9: the words that reading wrote have their yes, and spell the timetable of the text
  pub yes : (old : List ℕ) → slices_least ≤ length old → is_timetable (read_words text old) ≡ true
  pub spelled : (old : List ℕ) → slices_least ≤ length old → timetable_of (read_words text old) ≡ t

pub loaded : (text : List ℕ) (t : Timetable) (n : ℕ) → reading text ≡ Accepted t n → Loaded text t
loaded text t n e =
    let v : T (valid t) = subst T (sym (accepted_valid text t n e)) tt in
    record {
      two = demand_two t v;
      three = demand_three t v;
      yes = read_has_yes text t n e;
      spelled = read_spells text t n e;
    }

-- for a reader: a caller has the reply and the words, and all of it holds of the timetable that the words spell
pub read_loaded : (text old : List ℕ) → number_of (read_reply text (length old)) ≡ 0
    → Loaded text (timetable_of (read_words text old))
read_loaded text old e =
    let r = number_zero text (length old) e in
    let t = r.timetable in
    subst (Loaded text) (sym (read_spells text t r.lines r.accepted old r.long))
    (loaded text t r.lines r.accepted)

-- Question 9: "Could the timetable words come from an accepted text?", which since document 02, Eleven, "admit[s] gaps
-- and count[s] no bytes": are they those of a timetable that some sequence of reading, cancelling and adding leads to?
-- The test is_timetable has a yes exactly for the words that are, and what reading wrote, with number 0, always has its
-- yes. This is for a reader, as `question9`, `read_leads` and `zero_has_yes` say it; `LedTo` stands in Led.
use Rattle.std.specs.Prelude.{◌≡◌, refl, Bool, true, false, cond, ◌&&◌, ◌↔◌, List, [], ◌∷◌, ◌++◌, ℕ, zero, suc, ◌+◌}
use Rattle.std.specs.Prelude.{◌-◌, ◌≤◌, leb, eqb, length, drop}
use Rattle.std.proofs.Common.{sym, ap, subst, ◌∙◌, take-append-drop, zero-add, arith, leb-true, le-leb}
use Rattle.std.proofs.Math.Dec.{eqb-suc-zero}
use Rattle.std.proofs.Math.Seq.{take-append_seam}
use Rattle.words.specs.Put.{put}
use Rattle.words.specs.Below.{Below}
use Rattle.lists.specs.Tests.{and_both}
use Rattle.text.specs.Piece.{pieces}
use Rattle.text.specs.Time.{time_value}
use Rattle.text_shapes.specs.Shape.{shape_of}
use Rattle.timetable.specs.Timetable.{Timetable, valid}
use Rattle.timetable.specs.Words.{count_to, words, timetable_of, chained, footed, is_timetable}
use Rattle.timetable.specs.Access.{spelled_valid}
use Rattle.reading.specs.Reply.{Reply}
use Rattle.reading.specs.Reply.{Refused as ReplyRefused}
use Rattle.reading_lines.specs.Draft.{Draft, text_rules, blank, with_line}
use Rattle.reading_lines.specs.Progress.{progress, line_number_at}
use Rattle.reading.specs.Reading.{Outcome, Accepted, Refused, complete, ended, read_under, read_from, text_most}
use Rattle.reading.specs.Reading.{read_lines}
use Rattle.reading.specs.Reading.{reading, slices_least, reply_to, read_reply, read_words, number_of}
use Rattle.accepted.specs.Valid.{is_valid}
use Rattle.accepted.specs.Passes.{read_more}
use Rattle.accepted.specs.Sound.{accepted_valid}
use Rattle.accepted.specs.Spelled.{words_spell, words_footed, words_chained}
use Rattle.accepted.specs.Fits.{walks_listed}
use Rattle.accepted.specs.OwnWords.{yes_begins}
use Rattle.accepted.specs.Kept.{whole_of}
use Rattle.accepted.specs.Led.{by_reading, LedTo}
use Rattle.accepted.specs.Leads.{led_valid, valid_led}

-- ---- from the test to a timetable that is led to: the one that the words spell
yes_led : (w : List ℕ) → slices_least ≤ length w → is_timetable w ≡ true → LedTo w
yes_led w h y =
    record {
      timetable = timetable_of w;
      led = valid_led (timetable_of w) (spelled_valid w y);
      leads = yes_begins w y (omega arith);
    }

-- ---- and back
module _ (t : Timetable) (rest : List ℕ) (v : valid t ≡ true) where
  abbrev listed : count_to t.walks (length t.stations) ≡ length t.walks
  listed = walks_listed (length t.stations) t.walks (is_valid t v).each_walk

  pub valid_spells : timetable_of (words t ++ rest) ≡ t
  valid_spells = words_spell t rest (is_valid t v).numbers listed

  pub valid_yes : is_timetable (words t ++ rest) ≡ true
  unfolding is_timetable
  valid_yes =
      let w = words t ++ rest in
      and_both (chained w && valid (timetable_of w)) (footed w)
      (and_both (chained w) (valid (timetable_of w)) (words_chained t rest) (rw valid_spells v))
      (words_footed t rest (is_valid t v).numbers listed)

led_yes : (w : List ℕ) → LedTo w → is_timetable w ≡ true
led_yes w c =
    let t = c.timetable in
    let behind = drop (length (words t)) w in
    let begins : w ≡ words t ++ behind =
    sym (take-append-drop (length (words t)) w) ∙ ap (λ r. r ++ behind) c.leads in
    subst (λ z. is_timetable z ≡ true) (sym begins) (valid_yes t behind (led_valid c.led))

-- ---- the theorem
pub question9 : (w : List ℕ) → slices_least ≤ length w → is_timetable w ≡ true ↔ LedTo w
question9 w h = (yes_led w h, led_yes w)

-- ---- what reading wrote, with number 0
module _ (text : List ℕ) (t : Timetable) (n : ℕ) (e : reading text ≡ Accepted t n) where
  read_writes : (old : List ℕ) → slices_least ≤ length old
      → read_words text old ≡ words t ++ drop (length (words t)) old
  unfolding read_words put
  read_writes old h = rw (le-leb 16384 (length old) h, e, zero-add)

  module _ (old : List ℕ) (h : slices_least ≤ length old) where
    pub read_leads : Below 256 text → LedTo (read_words text old)
    read_leads b =
        record {
          timetable = t;
          led = by_reading text t n b e;
          leads = rw (read_writes old h) (take-append_seam (words t) (drop (length (words t)) old));
        }

    pub read_has_yes : is_timetable (read_words text old) ≡ true
    read_has_yes = rw (read_writes old h) (valid_yes t (drop (length (words t)) old) (accepted_valid text t n e))

    -- it spells the timetable of the text
    pub read_spells : timetable_of (read_words text old) ≡ t
    read_spells =
        rw (read_writes old h) (valid_spells t (drop (length (words t)) old) (accepted_valid text t n e))

-- ---- no refusal has number 0, so that a reply with number 0 has an accepted text
abbrev Numbered : Outcome → Type 0
Numbered (Accepted t n) = Unit {0}
Numbered (Refused number line) = 1 ≤ number

either_numbered : (test : Bool) (x y : Outcome) → Numbered x → Numbered y → Numbered (cond test x y)
either_numbered true x y h g = h
either_numbered false x y h g = g

line_numbered : (number line : ℕ) (x : Outcome) → Numbered x → Numbered (cond (eqb number 0) x (Refused number line))
line_numbered zero line x h = h
line_numbered (suc n) line x h = rw (eqb-suc-zero n) (omega arith)

end_numbered : (d : Draft) (line : ℕ) → Numbered (ended text_rules d line)
unfolding ended
end_numbered d line =
    either_numbered (complete text_rules d) (Accepted (whole_of text_rules d) (line - 1)) (Refused 7 line) tt
    (omega arith)

from_numbered : (d : Draft) (line : ℕ) (l : List (List ℕ)) → Numbered (read_from d line l)
unfolding read_under
from_numbered d line [] = end_numbered d line
from_numbered d line (s ∷ []) =
    either_numbered (eqb (length s) 0) (ended text_rules d line) (Refused 2 line) (end_numbered d line) (omega arith)
from_numbered d line (s ∷ u ∷ l) =
    let number = line_number_at text_rules (progress d) (shape_of s) in
    let after = with_line d (shape_of s) in
    subst Numbered (sym (read_more text_rules time_value d line s u l))
    (line_numbered number line (read_from after (line + 1) (u ∷ l)) (from_numbered after (line + 1) (u ∷ l)))

reading_numbered : (text : List ℕ) → Numbered (reading text)
unfolding reading read_lines
reading_numbered text =
    let lines = pieces 10 text in
    either_numbered (leb (length text) text_most) (read_from blank 1 lines) (Refused 1 0)
    (from_numbered blank 1 lines) (omega arith)

-- reading took this text, into a slice of n words
pub record Read (text : List ℕ) (n : ℕ) : Type 0 where
  pub long : slices_least ≤ n
  pub timetable : Timetable
  pub lines : ℕ
  pub accepted : reading text ≡ Accepted timetable lines

long_zero : (test : Bool) (x : Reply) → number_of (cond test x (ReplyRefused 8 0)) ≡ 0
    → (test ≡ true) × (number_of x ≡ 0)
long_zero true x e = (refl, e)
long_zero false x e = absurd (omega arith)

outcome_zero : (x : Outcome) → Numbered x → number_of (reply_to x) ≡ 0
    → (t : Timetable) × (n : ℕ) × (x ≡ Accepted t n)
outcome_zero (Accepted t n) h e = (t, n, refl)
outcome_zero (Refused number line) h e = absurd (omega arith)

-- "Success has number 0", and nothing else has
pub number_zero : (text : List ℕ) (n : ℕ) → number_of (read_reply text n) ≡ 0 → Read text n
unfolding read_reply
number_zero text n e =
    let c = long_zero (leb slices_least n) (reply_to (reading text)) e in
    let o = outcome_zero (reading text) (reading_numbered text) c.1 in
    record { long = leb-true slices_least n c.0; timetable = o.0; lines = o.1; accepted = o.2 }

-- what reading wrote, with number 0, has its yes: no premise but the reply
pub zero_has_yes : (text old : List ℕ) → number_of (read_reply text (length old)) ≡ 0
    → is_timetable (read_words text old) ≡ true
zero_has_yes text old e =
    let r = number_zero text (length old) e in
    read_has_yes text r.timetable r.lines r.accepted old r.long

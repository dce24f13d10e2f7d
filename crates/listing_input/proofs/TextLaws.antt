-- What a text prints, by the reply of reading.
use mathlib.Core.Path.{◌≡◌, sym, ap, ◌∙◌}
use mathlib.Core.List.{List, []}
use Prim.Native.Nat.{ℕ, ◌+◌}
use native.Mathlib.Omega.{arith}
use lib.ListN.{length}
use Rattle.words.specs.Put.{put, put_none}
use Rattle.listing_printing.specs.Lines.{refused_timetable}
use Rattle.reading.specs.Reply.{Reply as ReadReply}
use Rattle.reading.specs.Reply.{Done as ReadDone, Refused as ReadRefused}
use Rattle.reading.specs.Reading.{read_reply}
use Rattle.lines_tables.specs.Building.{build_words}
use Rattle.listing_output.specs.Printed.{read_printed, text_printed, read_tables, text_tables}

from_zero : (r n : ℕ) → r ≡ 0 + n → r ≡ n
from_zero r n e = omega arith

module _ (text : List ℕ) (n : ℕ) (words : n ≡ 16384) (r : ReadReply) (is : r ≡ read_reply text n) where
  text_is : read_printed r ≡ text_printed text
  unfolding text_printed
  text_is = ap read_printed (is ∙ ap (read_reply text) words)

  tables_are : (w old : List ℕ) (space : ℕ) → read_tables r w old space ≡ text_tables text w old space
  unfolding text_tables
  tables_are w old space = ap (λ k. read_tables k w old space) (is ∙ ap (read_reply text) words)

  module _ (lines : ℕ) (done : r ≡ ReadDone lines) where
    none_is : [] ≡ text_printed text
    none_is = sym (ap read_printed done) ∙ text_is

    pub none_count : 0 ≡ length (text_printed text)
    none_count = ap length none_is

    pub none_words : (old : List ℕ) → old ≡ put 0 (text_printed text) old
    none_words old = sym (put_none 0 old) ∙ ap (λ b. put 0 b old) none_is

    pub tables_built : (w old last : List ℕ) (space : ℕ) → last ≡ build_words w old space
        → last ≡ text_tables text w old space
    tables_built w old last space e = e ∙ sym (ap (λ k. read_tables k w old space) done) ∙ tables_are w old space

  module _ (number line : ℕ) (refused : r ≡ ReadRefused number line) where
    pub tables_kept : (w old : List ℕ) (space : ℕ) → old ≡ text_tables text w old space
    tables_kept w old space = sym (ap (λ k. read_tables k w old space) refused) ∙ tables_are w old space

    told_is : refused_timetable number line ≡ text_printed text
    told_is = sym (ap read_printed refused) ∙ text_is

    -- the code has the number from the question
    module _ (told : ℕ) (same : told ≡ number) where
      same_is : refused_timetable told line ≡ text_printed text
      same_is = ap (λ k. refused_timetable k line) same ∙ told_is

      pub told_count : (k : ℕ) → k ≡ 0 + length (refused_timetable told line) → k ≡ length (text_printed text)
      told_count k e = from_zero k (length (refused_timetable told line)) e ∙ ap length same_is

      pub told_words : (old last : List ℕ) → last ≡ put 0 (refused_timetable told line) old
          → last ≡ put 0 (text_printed text) old
      told_words old last e = e ∙ ap (λ b. put 0 b old) same_is

-- The ways out of the call.
use mathlib.Core.Path.{◌≡◌, refl, sym, ap, subst, ◌∙◌}
use mathlib.Core.Bool.{Bool, true, false, cond}
use mathlib.Core.List.{List, append-nil}
use Prim.Native.Nat.{ℕ, ◌≤◌, ◌<◌}
use native.Mathlib.Omega.{arith}
use borrow.Author.Tests.{le-leb, lt-leb}
use lib.Dec.{leb}
use lib.ListN.{length}
use Rattle.lists.specs.Lists.{range}
use Rattle.lists.specs.Ranges.{length_range}
use Rattle.std.specs.Prelude.{Result, Err}
use Rattle.questions.specs.Refused.{question_number}
use Rattle.words.specs.Put.{put}
use Rattle.timetable.specs.Timetable.{Timetable, stops_of}
use Rattle.timetable.specs.Words.{start_words, walk_words, words, joined}
use Rattle.timetable.specs.WordLaws.{joined_words}
use Rattle.reading.specs.Reading.{
  Outcome,
  Accepted,
  Refused,
  read_lines,
  reading,
  read_reply,
  read_words,
  reply_to,
  written,
  values_of,
  outcome_values,
  read_values,
}
use Rattle.reading_lines.specs.Draft.{text_rules}
use Rattle.reading_lines.specs.Progress.{Within}
use Rattle.reading.specs.Model.{stations_in, read_after, body_words, progress_of, LinesRead}
use Rattle.reading.proofs.CountLaws.{range_front}
use Rattle.reading_lines.specs.declared.Progress.{Progress}
use Rattle.reading.specs.Lines.{Lines}
use Rattle.reading.specs.Lines.{Accepted as LinesAccepted, Refused as LinesRefused}
use Rattle.reading.specs.declared.RefusedLine.{RefusedLine}
use Rattle.reading.specs.Reply.{Reply, read_seen}
use Rattle.reading.specs.Reply.{Done as ReplyDone, Refused as ReplyRefused}

-- the timetable's words, with the numbers that were counted
pub numbers_written : (table numbers : List ℕ) (stations trips stops walks : ℕ) (body starts walking old : List ℕ)
    → numbers ≡ range 1 256 → table ≡ put 0 (joined stations trips stops walks body starts numbers walking) old
    → table ≡ put 0 (joined stations trips stops walks body starts (range 1 256) walking) old
numbers_written table numbers stations trips stops walks body starts walking old counted e =
    e ∙ ap (λ n. put 0 (joined stations trips stops walks body starts n walking) old) counted

-- the values of the reply are those of the outcome
outcome_values_lem : (o : Outcome) → values_of (reply_to o) ≡ outcome_values o
outcome_values_lem (Accepted t n) = refl
outcome_values_lem (Refused k l) = refl

told : (text : List ℕ) (n : ℕ) → values_of (read_reply text n) ≡ read_values text n
unfolding read_reply read_values
told text n = by_test (leb 16384 n)
  where
    by_test : (t : Bool)
        → values_of (cond t (reply_to (reading text)) (ReplyRefused 8 0))
        ≡ cond t (outcome_values (reading text)) (record { number = 8; line = 0; count = 0 })
    by_test true = outcome_values_lem (reading text)
    by_test false = refl

-- a refusal keeps the words
pub refusal_keeps : (text old : List ℕ) (a : Result ℕ RefusedLine) (e : RefusedLine) → a ≡ Err e
    → read_seen a ≡ read_reply text (length old) → old ≡ read_words text old
unfolding read_reply read_words
refusal_keeps text old a e is told_so =
    go (leb 16384 (length old)) (reading text) (sym (ap read_seen is) ∙ told_so)
  where
    go : (t : Bool) (o : Outcome)
        → ReplyRefused (question_number e.refusal) e.line ≡ cond t (reply_to o) (ReplyRefused 8 0)
        → old ≡ cond t (written o old) old
    go false o f = refl
    go true (Refused k l) f = refl
    go true (Accepted t n) f = cc

module _ (text old : List ℕ) where
  values_told : (r : Reply) → r ≡ read_reply text (length old) → values_of r ≡ read_values text (length old)
  values_told r e = ap values_of e ∙ told text (length old)

  module _ (short : length old < 16384) where
    pub short_reply : ReplyRefused 8 0 ≡ read_reply text (length old)
    unfolding read_reply
    short_reply = simp (lt-leb 16384 (length old) short)

    pub short_values : values_of (ReplyRefused 8 0) ≡ read_values text (length old)
    short_values = values_told (ReplyRefused 8 0) short_reply

    pub short_words : old ≡ read_words text old
    unfolding read_words
    short_words = simp (lt-leb 16384 (length old) short)

  module _ (room : 16384 ≤ length old) where
    module _ (long : 65536 < length text) where
      refused_long : reading text ≡ Refused 1 0
      unfolding reading
      refused_long = simp (lt-leb (length text) 65536 long)

      pub long_reply : ReplyRefused 1 0 ≡ read_reply text (length old)
      unfolding read_reply
      long_reply = simp (le-leb 16384 (length old) room, refused_long)

      pub long_values : values_of (ReplyRefused 1 0) ≡ read_values text (length old)
      long_values = values_told (ReplyRefused 1 0) long_reply

      pub long_words : old ≡ read_words text old
      unfolding read_words
      long_words = simp (le-leb 16384 (length old) room, refused_long)

    module _ (fits : length text ≤ 65536) (r : Lines) (body starts walking body₀ starts₀ walking₀ : List ℕ)
        (lines : LinesRead text_rules (read_after text_rules body₀ 0 text) r body starts walking body₀ starts₀ walking₀)
      where
        reads_lines : reading text ≡ read_after text_rules body₀ 0 text
        unfolding reading read_lines stations_in
        reads_lines = simp (le-leb (length text) 65536 fits)

        module _ (number line : ℕ) (no : r ≡ LinesRefused number line) where
          is_refused : (o : Outcome) → LinesRead text_rules o r body starts walking body₀ starts₀ walking₀
              → o ≡ Refused number line
          is_refused (Accepted t n) l = let e = l.0 in let z : ◌≡◌ {A = ℕ} 0 1 = cc in absurd (omega arith)
          is_refused (Refused k m) l = cc

          refused_lines : reading text ≡ Refused number line
          refused_lines = reads_lines ∙ is_refused (read_after text_rules body₀ 0 text) lines

          pub refused_reply : ReplyRefused number line ≡ read_reply text (length old)
          unfolding read_reply
          refused_reply = simp (le-leb 16384 (length old) room, refused_lines)

          pub refused_values : values_of (ReplyRefused number line) ≡ read_values text (length old)
          refused_values = values_told (ReplyRefused number line) refused_reply

        module _ (p : Progress) (n : ℕ) (done : r ≡ LinesAccepted p n) where
          -- the timetable that was read, and what is kept of it
          record Held : Type 0 where
            timetable : Timetable
            accepted : read_after text_rules body₀ 0 text ≡ Accepted timetable n
            is_progress : p ≡ progress_of timetable
            within : Within (progress_of timetable)
            is_body : body ≡ put 0 (body_words timetable) body₀
            is_starts : starts ≡ put 0 (start_words 0 timetable.trips) starts₀
            is_numbered : timetable.numbers ≡ range 1 (length timetable.trips)
            is_walking : walking ≡ put 0 (walk_words timetable.walks) walking₀

          is_held : (o : Outcome) → read_after text_rules body₀ 0 text ≡ o
              → LinesRead text_rules o r body starts walking body₀ starts₀ walking₀ → Held
          is_held (Accepted t m) e l =
              let f = l.0 in
              let same : m ≡ n = cc in
              record {
                timetable = t;
                accepted = e ∙ ap (Accepted t) same;
                is_progress = cc;
                within = l.1;
                is_body = l.2;
                is_starts = l.3;
                is_numbered = l.4;
                is_walking = l.5;
              }
          is_held (Refused k m) e l = let z : ◌≡◌ {A = ℕ} 0 1 = cc in absurd (omega arith)

          held : Held
          held = is_held (read_after text_rules body₀ 0 text) refl lines

          is_within : Within p
          is_within = subst Within (sym held.is_progress) held.within

          pub few_stations : p.stations ≤ 64
          few_stations = is_within.stations

          pub few_trips : p.trips ≤ 256
          few_trips = is_within.trips

          pub few_stops : p.stops ≤ 2048
          few_stops = is_within.stops

          pub few_walks_lem : p.walks ≤ 256
          few_walks_lem = is_within.walks

          pub done_reply : ReplyDone n ≡ read_reply text (length old)
          unfolding read_reply
          done_reply = simp (le-leb 16384 (length old) room, reads_lines, held.accepted)

          -- the numbers are the first of 1, 2, 3..
          numbers_are : range 1 256 ≡ put 0 held.timetable.numbers (range 1 256)
          numbers_are =
              let t = held.timetable in
              let few : length t.trips ≤ 256 = omega (arith, held.within.trips) in
              sym (range_front 1 (length t.trips) 256 few)
              ∙ ap (λ l. put 0 l (range 1 256)) (sym held.is_numbered)

          table_is : joined p.stations p.trips p.stops p.walks body starts (range 1 256) walking
              ≡ words held.timetable
          table_is =
              let t = held.timetable in
              let e = held.is_progress in
              let stops : (progress_of t).stops ≡ length (stops_of t.trips) = simp append-nil in
              joined_words t p.stations p.trips p.stops p.walks (ap (λ (x : Progress). x.stations) e)
              (ap (λ (x : Progress). x.trips) e) (ap (λ (x : Progress). x.stops) e ∙ stops)
              (ap (λ (x : Progress). x.walks) e) body starts (range 1 256) walking body₀ starts₀ (range 1 256) walking₀
              held.is_body held.is_starts numbers_are held.is_walking
              (ap length held.is_numbered ∙ length_range 1 (length t.trips))

          pub done_words : (table : List ℕ)
              → table
              ≡ put 0 (joined p.stations p.trips p.stops p.walks body starts (range 1 256) walking) old
              → table ≡ read_words text old
          unfolding read_words
          done_words table e =
              simp (le-leb 16384 (length old) room, reads_lines, held.accepted)
              (e ∙ ap (λ w. put 0 w old) table_is)

          pub done_values : values_of (ReplyDone n) ≡ read_values text (length old)
          done_values = values_told (ReplyDone n) done_reply

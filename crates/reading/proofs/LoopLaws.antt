-- The loop over the lines of a text: what it keeps, and its ways on and out.
use mathlib.Core.Path.{◌≡◌, refl, sym, ap, subst, ◌∙◌}
use mathlib.Core.Bool.{Bool, true, false, cond, ◌&&◌}
use mathlib.Core.List.{List, [], ◌∷◌, ◌++◌, map, append-nil}
use Prim.Native.Nat.{ℕ, zero, suc, ◌+◌, ◌-◌, ◌*◌, ◌^◌, ◌≤◌, ◌<◌}
use native.Mathlib.Numerals.{add-one}
use native.Mathlib.Decide.{ℕ_discrete}
use native.Mathlib.Omega.{arith}
use borrow.Author.Tests.{eq-eqb, ne_eqb, eqb-true}
use lib.Dec.{eqb}
use lib.ListN.{length, get_or, take, drop, set, length-take, length-drop, length-set, length-map, take-append-drop}
use lib.Seq.{length-take-le, drop-cons}
use Rattle.words.specs.Put.{put, put_none, put_one, put_append, put_over, put_front, length_put}
use Rattle.lists.specs.Lists.{range}
use Rattle.lists.specs.Ranges.{length_range}
use Rattle.lists.specs.Places.{no_length}
use Rattle.lists.specs.Tests.{and_right}
use Rattle.text.specs.Piece.{pieces, piece_length, last_from, first_from_lem, pieces_some}
use Rattle.text.specs.Time.{time_value}
use Rattle.text_shapes.specs.Shape.{shape_of}
use Rattle.text_shapes.specs.declared.Line.{Line}
use Rattle.timetable.specs.Timetable.{Trip, Timetable}
use Rattle.timetable.specs.Words.{station_words, stop_words, start_words, walk_words}
use Rattle.timetable.specs.WordLaws.{length_start_words, length_walk_words, start_first}
use Rattle.reading_lines.specs.Draft.{Draft, Rules, opening, with_line, number_under}
use Rattle.reading_lines.specs.Progress.{Within, progress, line_number_at, same_number}
use Rattle.reading.specs.Reading.{Outcome, Accepted, Refused, complete, numbers_under, ended, read_under}
use Rattle.reading.specs.Model.{
  stations_in,
  read_after,
  advance,
  next_of,
  line_words,
  body_after,
  starts_with,
  starts_after,
  walking_words,
  walking_after,
  is_there,
  end_of,
  progress_of,
  LinesRead,
}
use Rattle.reading_lines.specs.declared.Progress.{Progress}
use Rattle.reading.specs.Next.{Next}
use Rattle.reading.specs.Next.{On, Refused as NextRefused}
use Rattle.reading.specs.Lines.{Lines}
use Rattle.reading.specs.Lines.{Accepted as LinesAccepted, Refused as LinesRefused}
use Rattle.reading.proofs.DraftLaws.{
  body_of,
  length_body_of,
  progress_grows,
  body_grows,
  walking_grows,
  starts_grow,
  within_grows,
  lines_in,
  lines_grow,
}

-- ---- reading, line by line
module _ (r : Rules) (d : Draft) (line : ℕ) where
  abbrev read_on : Draft → (line : ℕ) → List (List ℕ) → Outcome
  read_on = read_under r time_value

  pub read_line : (s text : List ℕ)
      → read_on d line (s ∷ pieces 10 text)
      ≡ cond (eqb (line_number_at r (progress d) (shape_of s)) 0)
      (read_on (with_line d (shape_of s)) (line + 1) (pieces 10 text))
      (Refused (line_number_at r (progress d) (shape_of s)) line)
  unfolding read_under
  read_line s text =
      let more = pieces_some 10 text in
      let asked : read_on d line (s ∷ pieces 10 text)
      ≡ cond (eqb (number_under r d (shape_of s)) 0)
      (read_on (with_line d (shape_of s)) (line + 1) (pieces 10 text))
      (Refused (number_under r d (shape_of s)) line) =
      rw more.2 in
      asked
      ∙ ap
      (λ n. cond (eqb n 0) (read_on (with_line d (shape_of s)) (line + 1) (pieces 10 text)) (Refused n line))
      (same_number r d (shape_of s))

  pub read_rest : (s : List ℕ) → (length s ≡ 0 → ⊥) → read_on d line (s ∷ []) ≡ Refused 2 line
  unfolding read_under
  read_rest s h = simp (ne_eqb (length s) 0 h)

  pub read_end : (s : List ℕ) → length s ≡ 0 → read_on d line (s ∷ []) ≡ ended r d line
  unfolding read_under
  read_end s h = simp (eq-eqb (length s) 0 h)

-- ---- the stations that stand in the array already
stations_from : (body : List ℕ) (k n : ℕ) → 2 * (k + n) ≤ length body
    → station_words (map (λ i. record { minutes = get_or body (2 * i) 0; points = get_or body (2 * i + 1) 0 })
    (range k n))
    ≡ take (2 * n) (drop (2 * k) body)
unfolding station_words
stations_from body k zero h = refl
stations_from body k (suc n) h =
    let two : 2 * suc n ≡ suc (suc (2 * n)) = omega arith in
    let next : suc (suc (2 * k)) ≡ 2 * suc k = omega arith in
    let one : suc (2 * k) ≡ 2 * k + 1 = sym (add-one (2 * k)) in
    let first = drop-cons body (2 * k) 0 (omega arith) in
    let second = drop-cons body (suc (2 * k)) 0 (omega arith) in
    let rest = stations_from body (suc k) n (omega arith) in
    let a = get_or body (2 * k) 0 in
    sym
    (ap (λ m. take m (drop (2 * k) body)) two
    ∙ ap (take (suc (suc (2 * n)))) (first ∙ ap (λ l. a ∷ l) second)
    ∙ (λ i. a ∷ get_or body (one i) 0 ∷ take (2 * n) (drop (next i) body))
    ∙ ap (λ l. a ∷ get_or body (2 * k + 1) 0 ∷ l) (sym rest))

stations_held : (body : List ℕ) (n : ℕ) → 2 * n ≤ length body → body ≡ put 0 (station_words (stations_in body n)) body
unfolding stations_in
stations_held body n h =
    let front = stations_from body 0 n (omega arith) in
    let long = length-take-le (2 * n) body h in
    sym (ap (λ l. put 0 l body) front
    ∙ put_front (take (2 * n) body) body
    ∙ ap (λ k. take (2 * n) body ++ drop k body) long
    ∙ take-append-drop (2 * n) body)

length_stations_in : (body : List ℕ) (n : ℕ) → length (stations_in body n) ≡ n
unfolding stations_in
length_stations_in body n = length-map (range 0 n) _ ∙ length_range 0 n

-- ---- what the loop keeps
pub record Kept
    (r : Rules)
    (n : ℕ)
    (text body₀ starts₀ walking₀ body starts walking : List ℕ)
    (p : Progress)
    (line from : ℕ)
    : Type 0
  where
    pub draft : Draft
    pub is_progress : p ≡ progress draft
    pub is_body : body ≡ put 0 (body_of draft) body₀
    pub is_starts : starts ≡ put 0 (start_words 0 draft.trips) starts₀
    pub is_walking : walking ≡ put 0 (walk_words draft.walks) walking₀
    pub is_read : read_after r body₀ n text ≡ read_under r time_value draft line (pieces 10 (drop from text))
    pub within : Within p
    pub long_body : length body ≡ 10368
    pub long_starts : length starts ≡ 257
    pub long_walking : length walking ≡ 1024
    pub body_room : length body₀ ≡ 10368
    pub starts_room : length starts₀ ≡ 257
    pub walking_room : length walking₀ ≡ 1024
    pub text_fits : length text < 2 ^ 64
    pub in_text : from ≤ length text
    pub some_line : 1 ≤ line
    pub few_lines : line ≤ lines_in p + 1

abbrev pub beginning : (stations : ℕ) → Progress
beginning n =
    record { stations = n; walks = 0; from = 0; to = 0; trips = 0; stops = 0; begun = 0; station = 0; depart = 0 }

pub kept_at_first : (r : Rules) (n : ℕ) (text body starts walking : List ℕ) → n ≤ 64 → length body ≡ 10368
    → length starts ≡ 257 → length walking ≡ 1024 → length text < 2 ^ 64
    → Kept r n text body (set starts 0 0) walking body (set starts 0 0) walking (beginning n) 1 0
unfolding start_words stop_words walk_words
kept_at_first r n text body starts walking few h g m t =
    record {
      draft = opening (stations_in body n);
      is_progress = λ i.
          record {
            stations = sym (length_stations_in body n) i;
            walks = 0;
            from = 0;
            to = 0;
            trips = 0;
            stops = 0;
            begun = 0;
            station = 0;
            depart = 0;
          };
      is_body =
          stations_held body n (omega arith)
          ∙ ap (λ l. put 0 l body) (sym (append-nil (station_words (stations_in body n))));
      is_starts = put_one 0 starts 0 (omega arith) ∙ sym (put_over 0 0 [] starts);
      is_walking = sym (put_none 0 walking);
      is_read = refl;
      within =
          record { stations = few; walks = omega arith; trips = omega arith; stops = omega arith; begun = omega arith };
      long_body = h;
      long_starts = simp length-set g;
      long_walking = m;
      body_room = h;
      starts_room = simp length-set g;
      walking_room = m;
      text_fits = t;
      in_text = omega arith;
      some_line = omega arith;
      few_lines = omega arith;
    }

-- the line between two indices
abbrev pub line_at : List ℕ → ℕ → ℕ → Line
line_at text from end = shape_of (take (end - from) (drop from text))

module _
    (r : Rules)
    (stations : ℕ)
    (text body₀ starts₀ walking₀ body starts walking : List ℕ)
    (p : Progress)
    (line from : ℕ)
    (k : Kept r stations text body₀ starts₀ walking₀ body starts walking p line from)
    (end : ℕ)
    (ends : end ≡ from + piece_length 10 (drop from text))
    (in_text : end ≤ length text)
  where
    -- behind a line there is more of the text
    pub from_fits : (end ≡ length text → ⊥) → end + 1 < 2 ^ 64
    from_fits n = omega (arith, k.text_fits)

    -- ---- behind the last line end
    pub rest_refused : end ≡ length text → (from ≡ length text → ⊥) → (b s w b₀ s₀ w₀ : List ℕ)
        → LinesRead r (read_after r body₀ stations text) (LinesRefused 2 line) b s w b₀ s₀ w₀
    rest_refused e n b s w b₀ s₀ w₀ =
        let some : length (take (end - from) (drop from text)) ≡ 0 → ⊥ =
        (λ z. n (omega (arith, length-take (end - from) (drop from text), length-drop from text, k.in_text))) in
        let is : read_after r body₀ stations text ≡ Refused 2 line =
        k.is_read
        ∙ ap (read_under r time_value k.draft line) (last_from 10 text from end ends k.in_text e)
        ∙ read_rest r k.draft line (take (end - from) (drop from text)) some in
        subst (λ o. LinesRead r o (LinesRefused 2 line) b s w b₀ s₀ w₀) (sym is) refl

    ends_here : end ≡ length text → from ≡ length text → read_after r body₀ stations text ≡ ended r k.draft line
    ends_here e n =
        let none : length (take (end - from) (drop from text)) ≡ 0 =
        omega (arith, length-take (end - from) (drop from text), length-drop from text) in
        k.is_read
        ∙ ap (read_under r time_value k.draft line) (last_from 10 text from end ends k.in_text e)
        ∙ read_end r k.draft line (take (end - from) (drop from text)) none

    -- ---- the end of the text, where the array of starts began as `set old 0 0`
    module _ (old : List ℕ) (began : starts₀ ≡ set old 0 0) (a : Lines) (answers : a ≡ end_of r p line)
        (e : end ≡ length text) (n : from ≡ length text) where
      some : Bool
      some = complete r k.draft

      as_lines : a ≡ cond some (LinesAccepted p (line - 1)) (LinesRefused 7 line)
      unfolding end_of is_there some
      as_lines =
          answers
          ∙ ap
          (λ (x : Progress).
          cond (is_there r x && eqb x.begun 0) (LinesAccepted p (line - 1)) (LinesRefused 7 line))
          k.is_progress

      whole : Timetable
      whole =
          record {
            stations = k.draft.stations;
            walks = k.draft.walks;
            numbers = numbers_under r k.draft.trips;
            trips = k.draft.trips;
          }

      as_read : read_after r body₀ stations text ≡ cond some (Accepted whole (line - 1)) (Refused 7 line)
      unfolding ended some whole
      as_read = ends_here e n

      ended_starts : starts ≡ put 0 (start_words 0 whole.trips) old
      unfolding whole
      ended_starts =
          let first = start_first 0 k.draft.trips in
          let marks : List ℕ = start_words 0 k.draft.trips in
          let over : put 0 marks (set old 0 0) ≡ put 0 marks old = rw first.1 (put_over 0 0 first.0 old) in
          k.is_starts ∙ ap (put 0 marks) began ∙ over

      ended_well : some ≡ true
          → LinesRead r (Accepted whole (line - 1)) (LinesAccepted p (line - 1)) body starts walking body₀ old walking₀
      unfolding some whole
      ended_well t =
          let none : k.draft.begun ≡ [] =
          no_length k.draft.begun
          (eqb-true (length k.draft.begun) 0
          (and_right (cond r.extra _ _) (eqb (length k.draft.begun) 0) t)) in
          let closed : k.draft ≡ record {
            stations = k.draft.stations;
            walks = k.draft.walks;
            trips = k.draft.trips;
            begun = [];
          } =
          ap
          (λ (b : Trip).
          record {
            stations = k.draft.stations;
            walks = k.draft.walks;
            trips = k.draft.trips;
            begun = b;
          })
          none in
          let is : p ≡ progress_of whole = k.is_progress ∙ ap progress closed in (
            ap (λ (x : Progress). LinesAccepted x (line - 1)) is,
            subst Within is k.within,
            k.is_body ∙ ap (λ (d : Draft). put 0 (body_of d) body₀) closed ∙ rw append-nil,
            ended_starts,
            refl,
            k.is_walking,
          )

      pub lines_end : LinesRead r (read_after r body₀ stations text) a body starts walking body₀ old walking₀
      lines_end =
          rw (as_lines)
          (subst (λ o. LinesRead r o (cond some (LinesAccepted p (line - 1)) (LinesRefused 7 line))
          body starts walking body₀ old walking₀)
          (sym as_read)
          (by_test some ended_well))
        where
          by_test : (t : Bool)
              → (t ≡ true
              → LinesRead r (Accepted whole (line - 1)) (LinesAccepted p (line - 1)) body starts walking body₀ old
              walking₀)
              → LinesRead r (cond t (Accepted whole (line - 1)) (Refused 7 line))
              (cond t (LinesAccepted p (line - 1)) (LinesRefused 7 line)) body starts walking body₀ old walking₀
          by_test true well = well refl
          by_test false well = refl

    -- ---- a line
    module _
        (a : Next)
        (body' starts' walking' : List ℕ)
        (answers : a ≡ next_of r p (line_at text from end))
        (body-after : body' ≡ body_after r p (line_at text from end) body)
        (starts-after : starts' ≡ starts_after r p (line_at text from end) starts)
        (walking_is : walking' ≡ walking_after r p (line_at text from end) walking)
        (more : end ≡ length text → ⊥)
      where
        number : ℕ
        number = line_number_at r (progress k.draft) (line_at text from end)

        read_on_lem : read_after r body₀ stations text
            ≡ cond (eqb number 0)
            (read_under r time_value (with_line k.draft (line_at text from end)) (line + 1)
            (pieces 10 (drop (end + 1) text)))
            (Refused number line)
        unfolding number
        read_on_lem =
            k.is_read
            ∙ ap (read_under r time_value k.draft line) (first_from_lem 10 text from end ends k.in_text in_text more)
            ∙ read_line r k.draft line (take (end - from) (drop from text)) (drop (end + 1) text)

        answer : a ≡ cond (eqb number 0) (On (advance p (line_at text from end))) (NextRefused number)
        unfolding next_of number
        answer = answers ∙ rw k.is_progress

        -- the line has its yes where the answer is to go on
        has_yes : (q : Progress) → a ≡ On q → number ≡ 0
        has_yes q e = elim (ℕ_discrete number 0) [ yes z ↦ z | no n ↦ absurd (apart n) ]
          where
            apart : (number ≡ 0 → ⊥) → ⊥
            apart n =
                let refused : a ≡ NextRefused number = answer ∙ simp (ne_eqb number 0 n) in
                let z : ◌≡◌ {A = ℕ} 0 1 = cc in
                omega arith

        advances : (q : Progress) → a ≡ On q → q ≡ advance p (line_at text from end)
        advances q e =
            let on : a ≡ On (advance p (line_at text from end)) = answer ∙ simp (eq-eqb number 0 (has_yes q e)) in
            cc

        -- the line is refused with the answer's number
        has_no : (m : ℕ) → a ≡ NextRefused m → (number ≡ 0 → ⊥)
        has_no m e z =
            let on : a ≡ On (advance p (line_at text from end)) = answer ∙ simp (eq-eqb number 0 z) in
            let z : ◌≡◌ {A = ℕ} 0 1 = cc in
            omega arith

        is_number : (m : ℕ) → a ≡ NextRefused m → m ≡ number
        is_number m e =
            let refused : a ≡ NextRefused number = answer ∙ simp (ne_eqb number 0 (has_no m e)) in
            cc

        pub line_refused : (m : ℕ) → a ≡ NextRefused m → (b s w b₀ s₀ w₀ : List ℕ)
            → LinesRead r (read_after r body₀ stations text) (LinesRefused m line) b s w b₀ s₀ w₀
        line_refused m e b s w b₀ s₀ w₀ =
            let is : read_after r body₀ stations text ≡ Refused number line =
            read_on_lem ∙ simp (ne_eqb number 0 (has_no m e)) in
            rw (is_number m e)
            (subst (λ o. LinesRead r o (LinesRefused number line) b s w b₀ s₀ w₀) (sym is) refl)

        module _ (q : Progress) (on : a ≡ On q) where
          accepted : line_number_at r (progress k.draft) (line_at text from end) ≡ 0
          unfolding number
          accepted = has_yes q on

          accepted_here : line_number_at r p (line_at text from end) ≡ 0
          accepted_here = ap (λ x. line_number_at r x (line_at text from end)) k.is_progress ∙ accepted

          next : Draft
          next = with_line k.draft (line_at text from end)

          next_progress : q ≡ progress next
          unfolding next
          next_progress =
              advances q on
              ∙ ap (λ x. advance x (line_at text from end)) k.is_progress
              ∙ sym (progress_grows k.draft (line_at text from end))

          next_within : Within q
          next_within =
              subst Within (sym (advances q on)) (within_grows r p (line_at text from end) k.within accepted_here)

          within_next : Within (progress next)
          within_next = subst Within next_progress next_within

          body_fits : 0 + length (body_of next) ≤ length body₀
          body_fits = omega (arith, length_body_of next, within_next, k.body_room)

          starts_fit : 0 + length (start_words 0 next.trips) ≤ length starts₀
          starts_fit = omega (arith, length_start_words 0 next.trips, within_next, k.starts_room)

          walking_fits : 0 + length (walk_words next.walks) ≤ length walking₀
          walking_fits = omega (arith, length_walk_words next.walks, within_next, k.walking_room)

          next_body : body' ≡ put 0 (body_of next) body₀
          unfolding body_after next
          next_body =
              let room = length_body_of k.draft in
              let place : 2 * p.stations + 5 * p.stops ≡ 0 + length (body_of k.draft) =
              ap (λ (x : Progress). 2 * x.stations + 5 * x.stops) k.is_progress ∙ omega arith in
              body-after
              ∙ simp (eq-eqb (line_number_at r p (line_at text from end)) 0 accepted_here)
              (rw (k.is_body, place, body_grows r k.draft (line_at text from end) accepted)
              (put_append 0 (length (body_of k.draft)) (body_of k.draft) (line_words (line_at text from end)) body₀
              refl (omega (arith, k.within, k.body_room))))

          next_starts : starts' ≡ put 0 (start_words 0 next.trips) starts₀
          unfolding starts_after next
          next_starts =
              starts-after
              ∙ simp (eq-eqb (line_number_at r p (line_at text from end)) 0 accepted_here)
              (ap (λ x. starts_with x (line_at text from end) starts) k.is_progress
              ∙ starts_grow k.draft starts starts₀ k.is_starts r (line_at text from end) accepted k.starts_room)

          next_walking : walking' ≡ put 0 (walk_words next.walks) walking₀
          unfolding walking_after next
          next_walking =
              let there = k.draft in
              let room = length_walk_words there.walks in
              let place : 4 * p.walks ≡ 0 + length (walk_words there.walks) =
              ap (λ (x : Progress). 4 * x.walks) k.is_progress ∙ omega arith in
              walking_is
              ∙ simp (eq-eqb (line_number_at r p (line_at text from end)) 0 accepted_here)
              (rw (k.is_walking, place, walking_grows there (line_at text from end))
              (put_append 0 (length (walk_words there.walks)) (walk_words there.walks)
              (walking_words (line_at text from end)) walking₀ refl (omega (arith, place, k.within, k.walking_room))))

          few_after : line + 1 ≤ lines_in q + 1
          few_after =
              subst (λ (x : Progress). line + 1 ≤ lines_in x + 1) (sym (advances q on))
              (lines_grow r p (line_at text from end) line accepted_here k.few_lines)

          pub line_kept : Kept r stations text body₀ starts₀ walking₀ body' starts' walking' q (line + 1) (end + 1)
          unfolding number next
          line_kept =
              record {
                draft = next;
                is_progress = next_progress;
                is_body = next_body;
                is_starts = next_starts;
                is_walking = next_walking;
                is_read = read_on_lem ∙ simp (eq-eqb number 0 (has_yes q on));
                within = next_within;
                long_body = ap length next_body ∙ length_put 0 (body_of next) body₀ body_fits ∙ k.body_room;
                long_starts =
                    ap length next_starts
                    ∙ length_put 0 (start_words 0 next.trips) starts₀ starts_fit
                    ∙ k.starts_room;
                long_walking =
                    ap length next_walking
                    ∙ length_put 0 (walk_words next.walks) walking₀ walking_fits
                    ∙ k.walking_room;
                body_room = k.body_room;
                starts_room = k.starts_room;
                walking_room = k.walking_room;
                text_fits = k.text_fits;
                in_text = omega arith;
                some_line = omega arith;
                few_lines = few_after;
              }

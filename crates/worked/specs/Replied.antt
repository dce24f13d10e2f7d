-- What the calls of Calls reply and write for a text that is read to a timetable, where the words of a store, or the
-- rows of the planner's list, are known. All follows from the promises: nothing is left to ask but what is known.
use Rattle.std.specs.Prelude.{◌≡◌, refl, true, false, ◌&&◌, List, [], ◌∷◌, ◌++◌, ℕ, ◌+◌, ◌*◌, ◌-◌, ◌≤◌, ◌<◌, leb, eqb}
use Rattle.std.specs.Prelude.{length, drop}
use Rattle.std.proofs.Common.{sym, ◌∙◌, add-zero, arith}
use Rattle.std.proofs.Math.Path.{ap}
use borrow.Author.Tests.{leb-true, eqb-false, le-leb, lt-leb}
use Rattle.std.proofs.Math.ListN.{get_or}
use Rattle.words.specs.Put.{put, length_put, put_front}
use Rattle.replies.specs.Reply.{Done}
use Rattle.replies.specs.Replies.{number_of, reply_of}
use Rattle.lists.specs.Tests.{and_left, and_right}
use Rattle.timetable.specs.Timetable.{Timetable, last_minute}
use Rattle.timetable.specs.Words.{words, timetable_of}
use Rattle.reading.specs.Reading.{Accepted, reading, read_reply, read_words}
use Rattle.reading.specs.Reply.{Done as ReadDone}
use Rattle.accepted.specs.Fits.{words_most_lem}
use Rattle.accepted.specs.Sound.{accepted_valid}
use Rattle.accepted.specs.Question9.{read_has_yes, read_spells}
use Rattle.results.specs.Results.{entries, result, costs}
use Rattle.connections.specs.Connections.{net, Connection}
use Rattle.connections.specs.Planner.{planner_list, measure, rows_of}
use Rattle.stores.specs.Stored.{stored}
use Rattle.stores.specs.Words.{nodes, arcs, encode, entries_most, store_words, well_made, kept_list, answer}
use Rattle.lines_tables.specs.Building.{build_number, build_reply, line_count}
use Rattle.lines_tables.specs.Tables.{table_words}
use Rattle.lines_check.specs.Built.{built_words, built_long, built_holds}
use Rattle.lines.specs.Lines.{line_numbers}
use Rattle.lines.specs.DirectRides.{directs, direct_rows}
use Rattle.lines_lookup.specs.Lookup.{line_count as counted_lines}
use Rattle.lines_lookup.specs.Holding.{holding}
use Rattle.lines_piece.specs.Piece.{piece_number}
use Rattle.lines_alone.proofs.Alone.{building_has_yes_alone}
use Rattle.lines_piece.specs.Handed.{trips_handed as handed}
use Rattle.demands.specs.Demands.{Query}
use Rattle.promises.specs.Packed.{packed_reply, packed_count}
use Rattle.promises.specs.Query.{row_words}
use Rattle.promises.specs.Promises.{Loaded, Made, StoreFits, word_count, shown_words, Shows as Shown, Stores as Stored}
use Rattle.promises.proofs.Proved.{promises}
use Rattle.worked.specs.Calls.{Slices, returned, Written, in_turn, Refuses, read, timetable_after, built}
use Rattle.worked.specs.Calls.{tables_after, trips_of, made, store_slice, asked_from, answer_from, direct_asked}
use Rattle.worked.specs.Calls.{direct_answer, Stores, Shows, ShowsNone, IllMade, Rides, RidesNone}

-- what is known of a text: the timetable that it is read to, its lines and the lines of the timetable
pub record Known (text : List ℕ) (t : Timetable) (lines count : ℕ) : Type 0 where
  pub accepted : reading text ≡ Accepted t lines
  pub counted : line_count t ≡ count
  pub few_lines : lines < 4294967296
  pub few_counted : count < 4294967296

-- with number 0 a host gets the count
counts : (n : ℕ) → n ≡ returned 0 n
counts n = omega arith

-- a query that names two of k stations, and a minute
pub query_known : (t : Timetable) (k a b u : ℕ) → length t.stations ≡ k → (leb 1 a && leb a k) ≡ true
    → (leb 1 b && leb b k) ≡ true → eqb b a ≡ false → leb u last_minute ≡ true → Query (net t) a u b
query_known t k a b u is from to other minute =
    record {
      source_first = leb-true 1 a (and_left (leb 1 a) (leb a k) from);
      source_last = omega (arith, is, leb-true a k (and_right (leb 1 a) (leb a k) from));
      target =
          record {
            first = leb-true 1 b (and_left (leb 1 b) (leb b k) to);
            last = omega (arith, is, leb-true b k (and_right (leb 1 b) (leb b k) to));
            other = eqb-false b a other;
          };
      minute = leb-true u last_minute minute;
    }

-- ---- rows in words
in_turn_lem : (r : List (List ℕ)) → row_words r ≡ in_turn r
in_turn_lem [] = refl
in_turn_lem (x ∷ r) = ap (λ ws. x ++ ws) (in_turn_lem r)

-- where there are rows, the list has a member
some_row : (u : ℕ) (l : List Connection) (x : List ℕ) (r : List (List ℕ)) → rows_of u l ≡ x ∷ r
    → leb 1 (length l) ≡ true
unfolding rows_of result entries
some_row u [] x r e = absurd (omega (arith, ap length e))
some_row u (c ∷ l) x r e = le-leb 1 (length (c ∷ l)) (omega arith)

-- ---- what is shown of a list, where its rows are known
module _ (u : ℕ) (l : List Connection) (before after : List ℕ) (reply : ℕ) (shown : Shown u l before after reply) where
  module _ (x : List ℕ) (r : List (List ℕ)) (known : rows_of u l ≡ x ∷ r) where
    some : leb 1 (length l) ≡ true
    some = some_row u l x r known

    words_are : shown_words u l ≡ in_turn (x ∷ r)
    words_are = ap row_words known ∙ in_turn_lem (x ∷ r)

    count_is : length (costs (measure u) l) ≡ length (x ∷ r)
    count_is = sym shown.answers.count ∙ ap length known

    written : Written reply after before (in_turn (x ∷ r)) (length (x ∷ r))
    written =
        record {
          done =
              λ room.
              shown.replies
              ∙ rw (some, words_are, le-leb (length (in_turn (x ∷ r))) (length before) room, count_is)
              (counts (length (x ∷ r)));
          words =
              λ room.
              shown.writes ∙ rw (some, words_are, le-leb (length (in_turn (x ∷ r))) (length before) room);
          short =
              λ few.
              shown.replies ∙ rw (some, words_are, lt-leb (length (in_turn (x ∷ r))) (length before) few);
          kept =
              λ few.
              shown.writes ∙ rw (some, words_are, lt-leb (length (in_turn (x ∷ r))) (length before) few);
        }

  none : l ≡ [] → Refuses 14 reply after before
  none e = record { number_is = shown.none.1 e; kept = shown.writes ∙ rw e }

module _ (s : Slices) (text : List ℕ) (t : Timetable) (lines count : ℕ) (k : Known text t lines count) where
  abbrev w : List ℕ
  w = timetable_after s text

  abbrev v : List ℕ
  v = tables_after s text

  read_reply_lem : read_reply text (length s.timetable) ≡ ReadDone lines
  unfolding read_reply
  read_reply_lem = rw (le-leb 16384 (length s.timetable) s.timetable_long, k.accepted)

  pub read_done : read s text ≡ returned 0 lines
  unfolding packed_reply
  read_done = rw (read_reply_lem, add-zero)

  put_words : w ≡ put 0 (words t) s.timetable
  unfolding read_words
  put_words = rw (le-leb 16384 (length s.timetable) s.timetable_long, k.accepted)

  pub read_writes : w ≡ words t ++ drop (length (words t)) s.timetable
  read_writes = put_words ∙ put_front (words t) s.timetable

  spells : timetable_of w ≡ t
  spells = read_spells text t lines k.accepted s.timetable s.timetable_long

  words_long : 16384 ≤ length w
  words_long =
      let most = words_most_lem t (accepted_valid text t lines k.accepted) in
      let same = ap length put_words
      ∙ length_put 0 (words t) s.timetable (omega (arith, most, s.timetable_long)) in
      omega (arith, same, s.timetable_long)

  build_reply_lem : build_reply w (length s.tables) s.space ≡ Done count
  unfolding build_reply build_number reply_of
  build_reply_lem =
      rw (
        le-leb 16384 (length w) words_long,
        le-leb 16384 (length s.tables) s.tables_long,
        le-leb 16384 s.space s.space_long,
        read_has_yes text t lines k.accepted s.timetable s.timetable_long,
        spells,
        k.counted,
      )

  pub built_done : built s text ≡ returned 0 count
  unfolding packed_count
  built_done = rw build_reply_lem

  built_0 : number_of (build_reply w (length s.tables) s.space) ≡ 0
  built_0 = ap number_of build_reply_lem

  pub build_writes : v ≡ table_words t ++ drop (length (table_words t)) s.tables
  build_writes =
      built_words w s.tables s.space built_0
      ∙ put_front (table_words (timetable_of w)) s.tables
      ∙ ap (λ x. table_words x ++ drop (length (table_words x)) s.tables) spells

  -- the trips of a line are handed out, by their numbers
  pub trips_handed : (line : ℕ) → 1 ≤ line → line ≤ line_count t
      → trips_of s text line ≡ get_or (line_numbers t) (line - 1) []
  unfolding piece_number
  trips_handed line least most =
      let holds = built_holds w s.tables s.space built_0 in
      let counted = (holding v (timetable_of w) holds).line_count_lem in
      let named : line ≤ counted_lines v = omega (arith, counted, ap line_count spells) in
      let number : piece_number v s.space line ≡ 0 =
      rw (
        built_long w s.tables s.space built_0,
        le-leb 16384 (length s.tables) s.tables_long,
        le-leb 16384 s.space s.space_long,
        building_has_yes_alone w s.tables s.space built_0,
        le-leb 1 line least,
        le-leb line (counted_lines v) named,
      ) in
      handed v s.space line number (timetable_of w) holds
      ∙ ap (λ x. get_or (line_numbers x) (line - 1) []) spells

  -- ---- the text is read and its tables are built
  loaded : Loaded text t w v
  loaded =
      record {
        text_lines = lines;
        accepted = k.accepted;
        timetable_before = s.timetable;
        reply_to_read = read s text;
        read = record { replies = refl; writes = refl };
        read_succeeds = omega (arith, read_done, k.few_lines);
        work = s.space;
        lines_before = s.tables;
        reply_to_build = built s text;
        built = record { replies = refl; writes = refl };
        build_succeeds = omega (arith, built_done, k.few_counted);
      }

  -- ---- a store whose words are known
  module _ (a x y : ℕ) (rest : List ℕ) (known : store_words (net t) a ≡ x ∷ y ∷ rest)
      (first : 1 ≤ a) (last : a ≤ length t.stations) (few : x ≤ entries_most) (few' : y ≤ entries_most)
      (counted : 2 + 3 * x + 2 * y ≡ length (x ∷ y ∷ rest)) where
    encoded : encode (stored (net t) a) ≡ x ∷ y ∷ rest
    unfolding store_words
    encoded = known

    nodes_known : length (nodes (stored (net t) a)) ≡ x
    unfolding encode
    nodes_known = ap (λ l. get_or l 0 0) encoded

    arcs_known : length (arcs (stored (net t) a)) ≡ y
    unfolding encode
    arcs_known = ap (λ l. get_or l 1 0) encoded

    count_known : word_count (net t) a ≡ length (x ∷ y ∷ rest)
    count_known = rw (nodes_known, arcs_known) counted

    fits : length (x ∷ y ∷ rest) ≤ length s.store → StoreFits (net t) a (length s.store)
    fits room =
        record {
          few_nodes = omega (arith, nodes_known);
          few_arcs = omega (arith, arcs_known);
          room_enough = omega (arith, count_known);
        }

    too_short : length s.store < length (x ∷ y ∷ rest) → ¬ StoreFits (net t) a (length s.store)
    too_short short f = omega (arith, f.room_enough, count_known)

    stores : Stored (net t) a s.store (store_slice s text a) (made s text a)
    stores =
        promises.store_stores text t w v loaded s.space a s.space_long first last
        s.store (store_slice s text a) (made s text a) (record { replies = refl; writes = refl })

    pub store_known : Stores s text a (x ∷ y ∷ rest)
    store_known =
        record {
          done = λ room. stores.replies (fits room) ∙ count_known ∙ counts (length (x ∷ y ∷ rest));
          words = λ room. stores.writes (fits room) ∙ rw (known, count_known);
          short = λ short. stores.short.1 (too_short short);
          kept = λ short. stores.short_writes (too_short short);
        }

  -- ---- a query, from the store that was made
  module _ (a b u : ℕ) (done : made s text a < 4294967296) (q : Query (net t) a u b) where
    abbrev own : List ℕ
    own = store_slice s text a

    was_made : Made w v a own
    was_made =
        record {
          work = s.space;
          store_before = s.store;
          reply = made s text a;
          made = record { replies = refl; writes = refl };
          succeeds = done;
        }

    planned : Shown u (planner_list (net t) a u b) s.answer (answer_from s text own a b u) (asked_from s text own a b u)
    planned =
        promises.query_shows text t w v loaded s.space a b u s.space_long q own was_made
        s.answer (answer_from s text own a b u) (asked_from s text own a b u)
        (record { replies = refl; writes = refl })

    pub rows_known : (x : List ℕ) (r : List (List ℕ)) → rows_of u (planner_list (net t) a u b) ≡ x ∷ r
        → Shows s text own a b u (x ∷ r)
    rows_known x r known = written u _ _ _ _ planned x r known

    pub none_known : planner_list (net t) a u b ≡ [] → ShowsNone s text own a b u
    none_known known = none u _ _ _ _ planned known

  -- ---- a query from any other store
  module _ (store : List ℕ) (a b u : ℕ) (q : Query (net t) a u b) where
    kept_shown : well_made (length t.stations) store ≡ true
        → Shown u (kept_list (net t) store a u b) s.answer
        (answer_from s text store a b u) (asked_from s text store a b u)
    kept_shown well =
        promises.kept_shows text t w v loaded s.space a b u s.space_long q store well
        s.answer (answer_from s text store a b u) (asked_from s text store a b u)
        (record { replies = refl; writes = refl })

    pub kept_known : well_made (length t.stations) store ≡ true
        → (x : List ℕ) (r : List (List ℕ)) → answer (net t) store a u b ≡ x ∷ r → Shows s text store a b u (x ∷ r)
    unfolding answer
    kept_known well x r known = written u _ _ _ _ (kept_shown well) x r known

    pub kept_none : well_made (length t.stations) store ≡ true → kept_list (net t) store a u b ≡ []
        → ShowsNone s text store a b u
    kept_none well known = none u _ _ _ _ (kept_shown well) known

    pub ill_made : well_made (length t.stations) store ≡ false → IllMade s text store a b u
    ill_made ill =
        let r = promises.ill_made text t w v loaded s.space a b u s.space_long q store ill
        s.answer (answer_from s text store a b u) (asked_from s text store a b u)
        (record { replies = refl; writes = refl }) in
        record { number_is = r.replies; kept = r.writes }

  -- ---- a direct query
  module _ (a b u : ℕ) (q : Query (net t) a u b) where
    direct_shown : Shown u (directs (net t) a u b) s.answer (direct_answer s text a b u) (direct_asked s text a b u)
    direct_shown =
        promises.direct_shows text t w v loaded s.space a b u s.space_long q
        s.answer (direct_answer s text a b u) (direct_asked s text a b u) (record { replies = refl; writes = refl })

    pub rides_known : (x : List ℕ) (r : List (List ℕ)) → direct_rows (net t) a u b ≡ x ∷ r
        → Rides s text a b u (x ∷ r)
    unfolding direct_rows
    rides_known x r known = written u _ _ _ _ direct_shown x r known

    pub no_rides : directs (net t) a u b ≡ [] → RidesNone s text a b u
    no_rides known = none u _ _ _ _ direct_shown known

-- The sequence of one arc, as the code has it: its stations are the first words of an array, two for each change, the
-- target the last of them. And the least penalties, arc by arc, for the words of a timetable.
use Rattle.std.specs.Prelude.{◌≡◌, Bool, true, false, not, List, [], ◌∷◌, ◌++◌, ℕ, suc, ◌+◌, ◌-◌, ◌*◌, ◌/◌, ◌≤◌, ◌<◌}
use Rattle.std.specs.Prelude.{get_or}
use Rattle.std.proofs.Math.Path.{refl, subst}
use Rattle.std.proofs.Common.{sym, ap, ◌∙◌, add-one, arith, length-append, length-take, take-suc, get_or-take}
use Rattle.std.proofs.Math.Logic.{inl, inr}
use Rattle.std.proofs.lemmas.Bool.{not-true, not-false}
use Rattle.std.proofs.Math.ListN.{length, take}
use Rattle.std.proofs.Math.Seq.{get_or-append_seam}
use Rattle.timetable.specs.Words.{timetable_of}
use Rattle.timetable.specs.Check.{length_stations}
use Rattle.connections.specs.Connections.{Transfer, net, Connection, direct, onward, stations}
use Rattle.connections.specs.Planner.{ride_count}
use Rattle.connections.proofs.Sound.{Sound}
use Rattle.lists.specs.Lists.{◌∈◌}
use Rattle.stores.specs.Words.{readable}
use Rattle.stores.specs.Sequences.{Odd, odd_length}
use Rattle.lines_tables.specs.Spelled.{within}
use Rattle.query_store.specs.Entries.{arc_count, arc_target, arc_before}
use Rattle.query_store.specs.Paths.{node_path, arc_path, arc_path_lem, length_readable}
use Rattle.query_store.specs.Repeats.{Idle, repeated_in}
use Rattle.query_store.specs.Made.{Made, arc_odd}
use Rattle.query_store.specs.Granted.{arc_within, few_arcs, made}
use Rattle.optimality.specs.Along.{read_back}
use Rattle.query_minutes.specs.Minutes.{blank}
use Rattle.query_costs.specs.Lowered.{Lowered}
use Rattle.query_costs.specs.Patterns.{changes_to, changes_read}
use Rattle.query_costs.specs.Onward.{Listed, Stations}
use Rattle.promises.specs.Query.{kept}
use Rattle.query_arcs.specs.Kept.{LeastKept}
use Rattle.query_arcs.specs.Collected.{Collected, collected_first, collected_skip, collected_again}
use Rattle.query_arcs.specs.Collected.{collected_more, collected_all}
use Rattle.query_arcs.specs.Merged.{unnamed, Bound, Merged, lowered_merged}
use Rattle.query_arcs.specs.Sole.{Sole, sole_first, sole_skip, sole_again, sole_more}
use Rattle.query_arcs.specs.Granted.{Granted, is_sound}

-- ---- the number of rides of a sequence: one to each station alighted at, and one to the target
unfoldable pub rides_along : List ℕ → ℕ
rides_along [] = 0
rides_along (x ∷ []) = 1
rides_along (x ∷ y ∷ q) = suc (rides_along q)

-- so many has each connection that goes by it
pub rides_along_lem : (c : Connection) → rides_along (stations c) ≡ ride_count c
unfolding rides_along
rides_along_lem (direct r) = refl
rides_along_lem (onward r w c) = ap suc (rides_along_lem c)

rides_count : (q : List ℕ) → Odd q → 2 * rides_along q ≡ suc (length q)
unfolding rides_along
rides_count [] o = absurd o
rides_count (x ∷ []) o = refl
rides_count (x ∷ y ∷ q) o = omega (arith, rides_count q o)

-- ---- as many numbers as arc k names are read
module _ (s : List ℕ) (k n : ℕ) (m : Made s) (inside : k < arc_count s) (count : n ≡ length (arc_path s k)) where
  changes : n ≡ 2 * (n / 2) + 1
  changes = let o = odd_length (arc_path s k) (arc_odd s m k inside) in omega (arith, o.1)

  pub read_long : 2 * (n / 2 + 1) - 1 ≡ length (arc_path s k)
  read_long = omega (arith, changes)

  pub read_rides : n / 2 + 1 ≡ rides_along (arc_path s k)
  read_rides = omega (arith, changes, rides_count (arc_path s k) (arc_odd s m k inside))

  pub read_path : (path : List ℕ) → take n path ≡ arc_path s k → take (2 * (n / 2 + 1) - 1) path ≡ arc_path s k
  read_path path is =
      let all : 2 * (n / 2 + 1) - 1 ≡ n = omega (arith, changes) in
      ap (λ i. take i path) all ∙ is

-- ---- the stations of arc k, of r rides, are the first words of an array
module _
    (s path : List ℕ)
    (k r : ℕ)
    (inside : k < arc_count s)
    (is : take (2 * r - 1) path ≡ arc_path s k)
    (count : 2 * r - 1 ≡ length (arc_path s k))
    (some : 1 ≤ r)
  where
    pub path_long : 2 * r - 1 ≤ length path
    path_long = omega (arith, length-take (2 * r - 1) path, ap length is, count)

    place_is : (i : ℕ) → i < 2 * r - 1 → get_or path i 0 ≡ get_or (arc_path s k) i 0
    place_is i h = sym (get_or-take (2 * r - 1) path i 0 h) ∙ ap (λ l. get_or l i 0) is

    pub target_is : get_or path (2 * r - 2) 0 ≡ arc_target s k
    target_is =
        let q = node_path s (arc_before s k) in
        let e = arc_path_lem s k inside in
        let at : 2 * r - 2 ≡ length q = omega (arith, count, ap length e, length-append q (arc_target s k ∷ [])) in
        place_is (2 * r - 2) (omega arith)
        ∙ (λ i. get_or (e i) (at i) 0)
        ∙ get_or-append_seam q (arc_target s k) [] 0

    pub changes_are : arc_path s k ≡ read_back (changes_to path (r - 1)) (arc_target s k ∷ [])
    changes_are =
        let next : 2 * r - 1 ≡ suc (2 * (r - 1)) = omega arith in
        let last : 2 * (r - 1) ≡ 2 * r - 2 = omega arith in
        sym is
        ∙ ap (λ n. take n path) next
        ∙ take-suc path (2 * (r - 1)) 0 (omega (arith, path_long))
        ∙ ap (λ x. take (2 * (r - 1)) path ++ (x ∷ [])) (ap (λ i. get_or path i 0) last ∙ target_is)
        ∙ sym (changes_read path (r - 1) (arc_target s k ∷ []) (omega (arith, path_long)))

    -- they are listed
    pub stations_are : (w v : List ℕ) (a b u : ℕ) → Granted w v s a b u → Stations w path (2 * r - 1)
    stations_are w v a b u g = record { listed = one }
      where
        one : (i : ℕ) → i < 2 * r - 1 → Listed w (get_or path i 0)
        one i h =
            let m = within (arc_path s k) i 0 (omega (arith, count)) in
            let z = arc_within (length (timetable_of w).stations) s g.made k inside (get_or (arc_path s k) i 0) m in
            let e = place_is i h in
            record { some = omega (arith, z.0, e); inside = omega (arith, z.1, e, length_stations w) }

-- ---- what is granted, for the code that is called
module _ (w v s : List ℕ) (a b u : ℕ) (g : Granted w v s a b u) where
  pub store_made : Made s
  store_made = made (length (timetable_of w).stations) s g.made

  pub store_words : 2 ≤ length s
  store_words = omega (arith, store_made.present)

  -- the number of an arc and one more is a word
  pub arc_few : (k : ℕ) → k < arc_count s → k + 1 < 65536
  arc_few k h = omega (arith, few_arcs (length (timetable_of w).stations) s g.made)

  pub source_listed : Listed w a
  source_listed = record { some = g.some; inside = g.inside }

-- an arc that counts leads to the target
pub counted_target : (s : List ℕ) (k b : ℕ) (r : Bool) → (r ≡ true → arc_target s k ≡ b) → not r ≡ false
    → arc_target s k ≡ b
counted_target s k b r so e = so (not-false r e)

-- ---- the first k arcs noted
pub record NotedAll (w s : List ℕ) (a b u k : ℕ) (best who : List ℕ) : Type 0 where
  pub collected : (ok : Sound (net (timetable_of w))) → Collected (net (timetable_of w)) ok s a u b k best
  pub sole : (ok : Sound (net (timetable_of w))) → Sole (net (timetable_of w)) ok s a u b k best who

pub noted_first : (w s : List ℕ) (a b u : ℕ) (best who : List ℕ) → best ≡ blank → who ≡ unnamed
    → NotedAll w s a b u 0 best who
noted_first w s a b u best who e f =
    record {
      collected =
          λ ok.
          subst
          (Collected (net (timetable_of w)) ok s a u b 0)
          (sym e)
          (collected_first (net (timetable_of w)) ok s a u b);
      sole =
          λ ok.
          subst
          (Sole (net (timetable_of w)) ok s a u b 0 best)
          (sym f)
          (sole_first (net (timetable_of w)) ok s a u b best);
    }

module _ (w s best who : List ℕ) (a b u k arcs : ℕ) (all : arcs ≡ arc_count s)
    (so_far : NotedAll w s a b u k best who) where
  module _ (t : ℕ) (target : t ≡ arc_target s k) (more : k < arcs) where
    in_arcs : k < arc_count s
    in_arcs = omega arith

    inside : k < length (readable s)
    inside = omega (arith, length_readable s)

    noted_skip : (t ≡ b → ⊥) → NotedAll w s a b u (k + 1) best who
    unfolding arc_path
    noted_skip other =
        subst (λ j. NotedAll w s a b u j best who) (sym (add-one k))
        (record {
          collected =
              λ ok.
              collected_skip (net (timetable_of w)) ok s a u b k best inside (so_far.collected ok)
              (node_path s (arc_before s k))
              (arc_target s k)
              (arc_path_lem s k in_arcs)
              (λ e. other (target ∙ e));
          sole =
              λ ok.
              sole_skip (net (timetable_of w)) ok s a u b k best who inside (so_far.sole ok)
              (node_path s (arc_before s k))
              (arc_target s k)
              (arc_path_lem s k in_arcs)
              (λ e. other (target ∙ e));
        })

  -- an arc that adds nothing
  pub noted_idle : (r : Bool) → (r ≡ false → Idle s b k) → not r ≡ true → k < arcs
      → NotedAll w s a b u (k + 1) best who
  unfolding Idle arc_path
  noted_idle r idle e more =
      elim (idle (not-true r e)) [
        | inl other ↦ noted_skip (arc_target s k) refl more other
        | inr again ↦ noted_again (repeated_in s k again (omega arith))
      ]
    where
      noted_again : arc_path s k ∈ take k (readable s) → NotedAll w s a b u (k + 1) best who
      noted_again again =
          let inside : k < length (readable s) = omega (arith, length_readable s) in
          subst (λ j. NotedAll w s a b u j best who) (sym (add-one k))
          (record {
            collected =
                λ ok. collected_again (net (timetable_of w)) ok s a u b k best inside (so_far.collected ok) again;
            sole = λ ok. sole_again (net (timetable_of w)) ok s a u b k best who inside (so_far.sole ok) again;
          })

  pub noted_all : (v : List ℕ) → Granted w v s a b u → arcs ≤ k → LeastKept u (kept w s a b u) best
  noted_all v g past =
      let ok = is_sound w v s a b u g in
      collected_all (net (timetable_of w)) ok s a u b k best (omega (arith, length_readable s)) (so_far.collected ok)

  -- all of them
  pub noted_end : k ≤ arcs → arcs ≤ k → NotedAll w s a b u (arc_count s) best who
  noted_end most past =
      let same : k ≡ arc_count s = omega (arith, all) in
      subst (λ j. NotedAll w s a b u j best who) same so_far

-- one arc more: its own least penalties are merged into those of the arcs before it
module _ (w s path : List ℕ) (a b u k r : ℕ) (old mine best who best' who' : List ℕ)
    (merged : Merged k mine best who best' who')
    (bound : Bound best who)
    (so_far : NotedAll w s a b u k best who)
    (lowered : Lowered (net (timetable_of w)) a u (changes_to path (r - 1)) (get_or path (2 * r - 2) 0) old mine)
    (fresh : old ≡ blank)
    (inside : k < arc_count s)
    (target : arc_target s k ≡ b)
    (is : take (2 * r - 1) path ≡ arc_path s k)
    (count : 2 * r - 1 ≡ length (arc_path s k))
    (some : 1 ≤ r)
    (long : length best' ≡ length best)
  where
    abbrev rev : List Transfer
    rev = changes_to path (r - 1)

    own : Lowered (net (timetable_of w)) a u (changes_to path (r - 1)) b blank mine
    own =
        subst (λ y. Lowered (net (timetable_of w)) a u (changes_to path (r - 1)) y blank mine)
        (target_is s path k r inside is count some ∙ target)
        (subst
        (λ o. Lowered (net (timetable_of w)) a u (changes_to path (r - 1)) (get_or path (2 * r - 2) 0) o mine)
        fresh
        lowered)

    ends : arc_path s k ≡ read_back (changes_to path (r - 1)) (b ∷ [])
    ends =
        changes_are s path k r inside is count some
        ∙ ap (λ y. read_back (changes_to path (r - 1)) (y ∷ [])) target

    in_readable : k < length (readable s)
    in_readable = omega (arith, length_readable s)

    pub noted_more : NotedAll w s a b u (k + 1) best' who'
    unfolding arc_path
    noted_more =
        subst (λ j. NotedAll w s a b u j best' who') (sym (add-one k))
        (record {
          collected =
              λ ok.
              collected_more (net (timetable_of w)) ok s a u b k best in_readable (so_far.collected ok) rev ends best'
              (lowered_merged k mine best who best' who' bound merged (net (timetable_of w)) a u rev b long own);
          sole =
              λ ok.
              sole_more (net (timetable_of w)) ok s a u b k best who in_readable (so_far.sole ok) mine best' who' rev
              ends
              target
              (so_far.collected ok)
              own
              merged;
        })

-- Up to which node some go on, minute by minute: a chunk is passed over at a minute at which nobody goes on behind a
-- parent of one of its nodes.
use Rattle.std.specs.Prelude.{◌≡◌, refl, Bool, true, false, ◌≢◌, ◌⊎◌, List, ℕ, zero, suc, ◌+◌, ◌≤◌, ◌<◌, min, max, leb}
use Rattle.std.specs.Prelude.{length, get_or, set}
use Rattle.std.proofs.Common.{sym, ap, subst, ◌∙◌, inl, inr, arith, leb→le, get_or-set_same, get_or-set_other}
use Rattle.std.proofs.lemmas.Bool.{false≢true}
use Rattle.std.proofs.Math.Decide.{ℕ_discrete, dec_lt}
use Rattle.lists.specs.Lists.{◌∈◌}
use Rattle.timetable.specs.Words.{station_count, is_timetable}
use Rattle.store_stops.specs.Stopwise.{depart}
use Rattle.store_stops.specs.StoredMarks.{Source}
use Rattle.store_stops.specs.TimelyLaws.{timely}
use Rattle.store_departures.specs.Held.{Departures}
use Rattle.store_frontier.specs.Routes.{Routes}
use Rattle.store_slots.specs.Slots.{slots}
use Rattle.store_tree.specs.Tree.{slot_in, parent_in}
use Rattle.store_nodes.specs.Standing.{Standing, StandingTo, ArcsAt, KidsAt, standing, node_onward}
use Rattle.store_nodes.specs.Chunk.{Raised}
use Rattle.store_nodes.specs.Hand.{Idle, Quiet, IdleFrom, Below, parent_under, below_parent}
use Rattle.store_nodes.specs.Hope.{quiet_below}
use Rattle.store_minutes.specs.Seeking.{Seen, Sought, seen_cases, departs, once_seen, sought_more}

-- at each minute at which something departs from a those of the nodes below u are idle that stand from the number on
-- that reach has for the minute
pub record LookedTo (w : List ℕ) (a u : ℕ) (reach : List ℕ) : Type 0 where
  pub idle : (d : ℕ) → Source w a d → (v : ℕ) → v < u → (v < get_or reach d 0) ⊎ Idle w a d v

-- that is so of the nodes below lo, and of those up to hi at the minutes of the departures at places from up to p
pub record Sounded (w : List ℕ) (a : ℕ) (chained : List ℕ) (from p lo hi : ℕ) (reach : List ℕ) : Type 0 where
  pub before : LookedTo w a lo reach
  pub seen : (d : ℕ) → Seen w chained from p (λ e. e ≡ d) → (v : ℕ) → lo ≤ v → v < hi
      → (v < get_or reach d 0) ⊎ Idle w a d v

-- no parent of the nodes from lo up to hi is below the least
pub record Parents (work : List ℕ) (lo hi least : ℕ) : Type 0 where
  pub above : (v : ℕ) → lo ≤ v → v < hi → least ≤ parent_in (get_or work v 0)

-- what a test says that passes: nobody goes on behind a node from the least on, which parents are
pub record PassedOver (reach : List ℕ) (d lo least : ℕ) (test : Bool) : Type 0 where
  pub some : test ≡ true → lo ≢ 0
  pub over : test ≡ true → get_or reach d 0 ≤ least

pub looked_none : (w : List ℕ) (a : ℕ) (reach : List ℕ) → LookedTo w a 0 reach
looked_none w a reach = record { idle = λ d s v h. absurd (omega arith) }

-- ---- the parents of a chunk
pub parents_none : (work : List ℕ) (lo least : ℕ) → Parents work lo lo least
parents_none work lo least = record { above = λ v h g. absurd (omega arith) }

pub parents_more : (work : List ℕ) (lo v least p r : ℕ) → Parents work lo v least → p ≡ parent_in (get_or work v 0)
    → r ≡ min least p → Parents work lo (v + 1) r
parents_more work lo v least p r before is most =
    record {
      above = λ u h g.
          elim (ℕ_discrete u v) [
            | yes same ↦ omega (arith, ap (λ k. parent_in (get_or work k 0)) same)
            | no other ↦ omega (arith, before.above u h (omega (arith, other)))
          ];
    }

pub parents_all : (work : List ℕ) (lo v hi least : ℕ) → Parents work lo v least → hi ≤ v → Parents work lo hi least
parents_all work lo v hi least all whole = record { above = λ u h g. all.above u h (omega arith) }

-- nodes below hi have words
pub chunk_inside : (w : List ℕ) (a : ℕ) (work : List ℕ) (hi : ℕ) → StandingTo w a work hi → hi ≤ length work
chunk_inside w a work hi s = omega (arith, s.on, s.grown.few_nodes, s.grown.long_work)

pub raised_word : (reach : List ℕ) (d old node r : ℕ) → old ≡ get_or reach d 0 → r ≡ max old node
    → set reach d r ≡ set reach d (max (get_or reach d 0) node)
raised_word reach d old node r was is = ap (set reach d) (is ∙ ap (λ k. max k node) was)

-- ---- the test
pub over_root : (reach : List ℕ) (d lo least : ℕ) → PassedOver reach d lo least false
over_root reach d lo least =
    record { some = (λ e. absurd (false≢true e)); over = (λ e. absurd (false≢true e)) }

pub over_test : (reach : List ℕ) (d lo least r : ℕ) → lo ≢ 0 → r ≡ get_or reach d 0
    → PassedOver reach d lo least (leb r least)
over_test reach d lo least r more is =
    record { some = (λ e. more); over = (λ e. omega (arith, leb→le r least (rw e tt))) }

-- ---- nodes without one to go along
module _ (w : List ℕ) (ok : is_timetable w ≡ true) (a d : ℕ) (work : List ℕ) (lo hi least : ℕ) (reach : List ℕ)
    (s : StandingTo w a work hi) (parents : Parents work lo hi least) (more : lo ≢ 0) (over : get_or reach d 0 ≤ least)
    (known : (v : ℕ) → v < lo → (v < get_or reach d 0) ⊎ Idle w a d v) where
  abbrev parent_of : ℕ → ℕ
  parent_of v = parent_in (get_or work v 0)

  abbrev slot_of : ℕ → ℕ
  slot_of v = slot_in (get_or work v 0)

  quiet_within : (f v : ℕ) → v ≤ f → lo ≤ v → v < hi → Quiet w a d v
  quiet_within zero v h low under = absurd (more (omega arith))
  quiet_within (suc f) v h low under = quiet_below w a d (parent_of v) (slot_of v) v below listed (go (quiet_within f))
    where
      this : Standing w a work v
      this = standing w a work hi v s under

      root : v ≡ 0 → ⊥
      root e = more (omega arith)

      below : Below w a (parent_of v) (slot_of v) v
      below = below_parent w ok a work v this root (parent_of v) refl

      listed : slot_of v ∈ slots w
      listed = (node_onward w ok a work v this v this.on (omega (arith, root))).listed

      go : ((u : ℕ) → u ≤ f → lo ≤ u → u < hi → Quiet w a d u) → Idle w a d (parent_of v)
      go earlier =
          let falls = parent_under w ok a work v this root (parent_of v) refl in
          elim (dec_lt (parent_of v) lo) [
            | yes early ↦
                elim (known (parent_of v) early) [
                  | inl low-p ↦ absurd (omega (arith, parents.above v low under))
                  | inr still ↦ still
                ]
            | no late ↦ (earlier (parent_of v) (omega arith) (omega (arith, late)) (omega arith)).idle
          ]

  pub quiet_chunk : (v : ℕ) → lo ≤ v → v < hi → Quiet w a d v
  quiet_chunk v low under = quiet_within v v (omega arith) low under

raised_quiet : (n : ℕ) (Told : (v k : ℕ) → Type 0) (lo hi : ℕ) (flags : List ℕ)
    → ((v k : ℕ) → lo ≤ v → v < hi → ¬ Told v k) → Raised n Told lo hi flags flags
raised_quiet n Told lo hi flags none =
    record {
      here = λ v k h g f. (λ e. inl e, λ e. (elim e [ inl up ↦ up | inr t ↦ absurd (none v k h g t) ]));
      above = λ i h. refl;
    }

-- ---- one departure more
pub sounded_none : (w : List ℕ) (a : ℕ) (chained : List ℕ) (from lo hi : ℕ) (reach : List ℕ) → LookedTo w a lo reach
    → Sounded w a chained from from lo hi reach
sounded_none w a chained from lo hi reach before =
    record { before = before; seen = λ d s v h g. absurd (omega (arith, s.begun, s.inside)) }

pub sounded_first : (w : List ℕ) (a : ℕ) (chained : List ℕ) (from p lo hi : ℕ) (reach : List ℕ) → p ≡ from
    → Sounded w a chained from from lo hi reach → Sounded w a chained from p lo hi reach
sounded_first w a chained from p lo hi reach e s = subst (λ p. Sounded w a chained from p lo hi reach) (sym e) s

module _ (w order : List ℕ) (n : ℕ) (caught : List ℕ) (routes : Routes w order n caught) (chained first : List ℕ)
    (held : Departures w chained first) (a : ℕ) (listed : a ≤ station_count w) where
  module _ (p : ℕ) (begun : get_or first a 0 ≤ p) (inside : p < get_or first (a + 1) 0) (d : ℕ)
      (is : d ≡ depart w (get_or chained p 0)) where
    ok : is_timetable w ≡ true
    ok = routes.accepted

    leaving : Source w a d
    leaving =
        let k = departs w order n caught routes chained first held a listed p begun inside in
        record { g = get_or chained p 0; goes = k.0; here = k.1; leaves = sym is }

    pub minute_few : d < 2880
    minute_few =
        let k = departs w order n caught routes chained first held a listed p begun inside in
        omega (arith, (timely w ok).leaves (get_or chained p 0) k.0)

    module _ (lo hi : ℕ) (reach : List ℕ) (s : Sounded w a chained (get_or first a 0) p lo hi reach) where
      -- what is known of this minute comes to that of one place more
      sounded_with : ((v : ℕ) → lo ≤ v → v < hi → (v < get_or reach d 0) ⊎ Idle w a d v)
          → Sounded w a chained (get_or first a 0) (p + 1) lo hi reach
      sounded_with here =
          record {
            before = s.before;
            seen = λ e seen v low under.
                elim (seen_cases w chained (get_or first a 0) p (λ z. z ≡ e) seen) [
                  | inl old ↦ s.seen e old v low under
                  | inr now ↦
                      subst (λ e. (v < get_or reach e 0) ⊎ Idle w a e v) (is ∙ now) (here v low under)
                ];
          }

      pub sounded_same : (last : ℕ) (arcs kids : List ℕ) → Sought w a chained (get_or first a 0) p last lo hi arcs kids
          → d ≡ last → Sounded w a chained (get_or first a 0) (p + 1) lo hi reach
      sounded_same last arcs kids sought same = sounded_with here
        where
          here : (v : ℕ) → lo ≤ v → v < hi → (v < get_or reach d 0) ⊎ Idle w a d v
          here v low under =
              elim sought.seen_last [
                | inl never ↦ absurd (omega (arith, minute_few))
                | inr seen ↦
                    subst (λ e. (v < get_or reach e 0) ⊎ Idle w a e v) (sym same) (s.seen last seen v low under)
              ]

      module _ (work : List ℕ) (least : ℕ) (test : Bool) (standing_to : StandingTo w a work hi)
          (parents : Parents work lo hi least) (passed : PassedOver reach d lo least test) (yes : test ≡ true) where
        still : (v : ℕ) → lo ≤ v → v < hi → Quiet w a d v
        still =
            quiet_chunk w ok a d work lo hi least reach standing_to parents (passed.some yes) (passed.over yes)
            (s.before.idle d leaving)

        pub sounded_over : Sounded w a chained (get_or first a 0) (p + 1) lo hi reach
        sounded_over = sounded_with (λ v low under. inr (still v low under).idle)

        pub sought_over : (last : ℕ) (arcs kids : List ℕ)
            → Sought w a chained (get_or first a 0) p last lo hi arcs kids
            → Sought w a chained (get_or first a 0) (p + 1) d lo hi arcs kids
        sought_over last arcs kids sought =
            sought_more w order n caught routes chained first held a listed p begun inside last lo hi arcs kids sought
            d
            arcs
            kids
            is
            (raised_quiet 64 (ArcsAt w a d) lo hi arcs (λ v k low under. (still v low under).arcs k))
            (raised_quiet 320 (KidsAt w a d) lo hi kids (λ v k low under. (still v low under).idle.kids k))

      -- the number for this minute rises
      pub sounded_more : (r : ℕ) (reach' : List ℕ) → IdleFrom w a d lo hi r
          → reach' ≡ set reach d (max (get_or reach d 0) r) → length reach ≡ 2880
          → Sounded w a chained (get_or first a 0) (p + 1) lo hi reach'
      sounded_more r reach' from-r noted long =
          record {
            before = record { idle = λ e source v low. up e v (s.before.idle e source v low) };
            seen = λ e seen v low under.
                elim (seen_cases w chained (get_or first a 0) p (λ z. z ≡ e) seen) [
                  | inl old ↦ up e v (s.seen e old v low under)
                  | inr now ↦
                      subst (λ e. (v < get_or reach' e 0) ⊎ Idle w a e v) (is ∙ now)
                      (elim (from-r.idle v low under) [
                        | inl small ↦ inl (omega (arith, here))
                        | inr idle ↦ inr idle
                      ])
                ];
          }
        where
          here : get_or reach' d 0 ≡ max (get_or reach d 0) r
          here =
              ap (λ l. get_or l d 0) noted
              ∙ get_or-set_same reach d (max (get_or reach d 0) r) 0 (omega (arith, minute_few))

          rises : (e : ℕ) → get_or reach e 0 ≤ get_or reach' e 0
          rises e =
              elim (ℕ_discrete e d) [
                | yes same ↦
                    omega (arith, here, ap (λ k. get_or reach k 0) same, ap (λ k. get_or reach' k 0) same)
                | no other ↦
                    omega (
                      arith,
                      ap (λ l. get_or l e 0) noted,
                      get_or-set_other reach d e (max (get_or reach d 0) r) 0 other,
                    )
              ]

          up : (e v : ℕ) → (v < get_or reach e 0) ⊎ Idle w a e v → (v < get_or reach' e 0) ⊎ Idle w a e v
          up e v known =
              elim known [
                | inl small ↦ inl (omega (arith, rises e))
                | inr idle ↦ inr idle
              ]

  -- all departures of the source
  pub looked_all : (p lo hi : ℕ) (reach : List ℕ) → p ≤ get_or first (a + 1) 0 → (stop : ℕ)
      → stop ≡ get_or first (a + 1) 0 → stop ≤ p → Sounded w a chained (get_or first a 0) p lo hi reach
      → LookedTo w a hi reach
  looked_all p lo hi reach most stop is least s =
      record {
        idle = λ d source v under.
            elim (dec_lt v lo) [
              | yes low ↦ s.before.idle d source v low
              | no high ↦ s.seen d (seen d source) v (omega (arith, high)) under
            ];
      }
    where
      seen : (d : ℕ) → Source w a d → Seen w chained (get_or first a 0) p (λ e. e ≡ d)
      seen d source =
          let e : get_or first (a + 1) 0 ≡ p = omega arith in
          subst (λ p. Seen w chained (get_or first a 0) p (λ e. e ≡ d)) e
          (once_seen w order n caught routes chained first held a listed (λ e. e ≡ d)
          (record { minute = d; source = source; at = refl }))

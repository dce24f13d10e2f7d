-- The flags that those raise who ride on from a node's labels are those of the stations where a connection along the
-- node's changes ends well, and of the changes after which one can still end well. All tests pass the sooner the less
-- was paid, so the least that a rider can have paid decides.
use Rattle.std.specs.Prelude.{◌≡◌, Bool, true, false, ◌⊎◌, ◌↔◌, List, [], ◌∷◌, ◌++◌, ℕ, zero, suc, ◌+◌, ◌-◌, ◌≤◌, ◌<◌}
use Rattle.std.specs.Prelude.{ltb, length, set}
use Rattle.std.proofs.Math.Path.{refl, sym, ap, subst}
use Rattle.std.proofs.Common.{◌∙◌, inl, inr, arith, nltb→le, length-set, get_or-set_same, get_or-set_other}
use mathlib.Core.List.Memᴰ.{head as here}
use mathlib.Core.List.Memᴰ.{tail as there}
use mathlib.Core.List.Memᴰ
use Rattle.std.proofs.Math.Decide.{ℕ_discrete}
use borrow.Author.Tests.{lt-ltb}
use Rattle.std.proofs.Math.Dec.{ltb→lt}
use Rattle.std.proofs.Math.ListN.{get_or, get_or-eq_default}
use Rattle.lists.specs.Lists.{◌∈◌, concat_map}
use Rattle.lists.specs.Tests.{either}
use Rattle.lists.specs.Members.{none, cons_cases, concat_map_in, concat_map_out, range_in, range_out}
use Rattle.timetable.specs.Words.{station_count, walks_to, walk_at, is_timetable}
use Rattle.timetable.specs.Walks.{FromStation, walk_from}
use Rattle.connections.specs.Connections.{Change, Transfer, on_foot}
use Rattle.store_stops.specs.Stopwise.{station, arrive, depart, nowhere, stay, ways_of, Goes}
use Rattle.store_stops.specs.Paid.{Paid, Arrived, Labelled}
use Rattle.store_stops.specs.Prospects.{Bounded, OntoWell, Ends, GoesOn}
use Rattle.store_stops.specs.Settled.{Timely}
use Rattle.store_stops.specs.TimelyLaws.{timely}
use Rattle.store_stops.specs.Visits.{departs_later}
use Rattle.store_stops.specs.Ways.{stay_way, from_few, from_way, each_way}
use Rattle.store_slots.specs.Slots.{here_slot, walk_slot, walks_from, transfer_at, slots}
use Rattle.store_slots.specs.SlotLaws.{SlotOf, here_slot_lem, walk_slot_lem, slot_unique}
use Rattle.store_departures.specs.Order.{waiting, catch_by}
use Rattle.store_marks.specs.Arrays.{raised}
use Rattle.store_marks.specs.Riding.{
  Visit,
  visit,
  boardings,
  run,
  Try,
  raise_try,
  raise_all,
  ends_try,
  change_try,
  walk_tries,
  change_tries,
  flag_arc,
  flag_kids,
}
use Rattle.store_marks.specs.Reaching.{boards_at, boardings_arrived, boardings_least}

-- of n flags those that were up stay up, and those told go up
pub record Marked (n : ℕ) (Told : ℕ → Type 0) (old new : List ℕ) : Type 0 where
  pub exactly : (k : ℕ) → k < n → (get_or new k 0 ≡ 1) ↔ ((get_or old k 0 ≡ 1) ⊎ Told k)

-- slot s is one of the timetable's, and of the stations that it stands for this holds
pub record Slotted (w : List ℕ) (Holds : Transfer → Type 0) (s : ℕ) : Type 0 where
  pub listed : s ∈ slots w
  pub holds : Holds (transfer_at w s)

-- whatever the start, the minute and the changes were of which x has the labels at station c: in arcs, where station b
-- has the flag at index b - 1, those are told where a connection along them ends well,
pub record ArcsMarked (w : List ℕ) (c : ℕ) (x allowed old new : List ℕ) : Type 0 where
  pub marked : (a d : ℕ) (rev : List Transfer) → boards_at a rev ≡ c → Labelled w a d rev c x
      → Marked 64 (λ k. Ends w a d allowed rev (suc k)) old new

-- in kids, where a change has the flag at its slot, those after which one can still end well
pub record KidsMarked (w : List ℕ) (c : ℕ) (x allowed q old new : List ℕ) : Type 0 where
  pub marked : (a d : ℕ) (rev : List Transfer) → boards_at a rev ≡ c → Labelled w a d rev c x
      → Bounded w allowed d (catch_by w) q → Marked 320 (Slotted w (GoesOn w a d allowed rev)) old new

-- ---- flags in general
-- one try
module _ (t : Try) (s : List ℕ) where
  abbrev once : List ℕ
  once = raise_try t s

  try_up : t.passes ≡ true → once ≡ set s t.flag 1
  unfolding raise_try raised
  try_up e = rw e

  try_not : t.passes ≡ false → once ≡ s
  unfolding raise_try raised
  try_not e = rw e

  try_length : length once ≡ length s
  try_length = go t.passes refl
    where
      go : (b : Bool) → t.passes ≡ b → length once ≡ length s
      go true e = ap length (try_up e) ∙ length-set s t.flag 1
      go false e = ap length (try_not e)

  -- one that passes, for the flag at k
  abbrev Raises : (k : ℕ) → Type 0
  Raises k = (t.passes ≡ true) × (t.flag ≡ k)

  try_raised : (k : ℕ) → k < length s → Raises k → get_or once k 0 ≡ 1
  try_raised k h r =
      ap (λ l. get_or l k 0) (try_up r.0)
      ∙ ap (λ i. get_or (set s i 1) k 0) r.1
      ∙ get_or-set_same s k 1 0 h

  try_cases : (k : ℕ) → k < length s → (get_or once k 0 ≡ get_or s k 0) ⊎ (Raises k × (get_or once k 0 ≡ 1))
  try_cases k h = go t.passes refl
    where
      go : (b : Bool) → t.passes ≡ b → (get_or once k 0 ≡ get_or s k 0) ⊎ (Raises k × (get_or once k 0 ≡ 1))
      go true e =
          elim (ℕ_discrete k t.flag) [
            | yes q ↦ inr ((e, sym q), try_raised k h (e, sym q))
            | no q ↦ inl (ap (λ l. get_or l k 0) (try_up e) ∙ get_or-set_other s t.flag k 1 0 q)
          ]
      go false e = inl (ap (λ l. get_or l k 0) (try_not e))

-- what is up stays up
raise_up : (l : List Try) (s : List ℕ) (k : ℕ) → k < length s → get_or s k 0 ≡ 1 → get_or (raise_all l s) k 0 ≡ 1
unfolding raise_all
raise_up [] s k h e = e
raise_up (t ∷ l) s k h e =
    raise_up l (once t s) k (omega (arith, try_length t s)) (elim (try_cases t s k h) [ inl q ↦ q ∙ e | inr r ↦ r.1 ])

raise_raised : (l : List Try) (s : List ℕ) (k : ℕ) (t : Try) → k < length s → t ∈ l → Raises t s k
    → get_or (raise_all l s) k 0 ≡ 1
unfolding raise_all
raise_raised [] s k t h m r = none m
raise_raised (u ∷ l) s k t h m r = go (raise_raised l (once u s) k t inside)
  where
    inside : k < length (once u s)
    inside = omega (arith, try_length u s)

    go : (t ∈ l → Raises t (once u s) k → get_or (raise_all l (once u s)) k 0 ≡ 1)
        → get_or (raise_all l (once u s)) k 0 ≡ 1
    go ih =
        cons_cases m
        (λ q. raise_up l (once u s) k inside (try_raised u s k h (subst (λ z. Raises z s k) q r)))
        (λ i. ih i r)

-- one of the list, for the flag at k
record Raised (l : List Try) (k : ℕ) : Type 0 where
  try : Try
  listed : try ∈ l
  passes : try.passes ≡ true
  is : try.flag ≡ k

raise_from : (l : List Try) (s : List ℕ) (k : ℕ) → k < length s → get_or (raise_all l s) k 0 ≡ 1
    → (get_or s k 0 ≡ 1) ⊎ Raised l k
unfolding raise_all
raise_from [] s k h e = inl e
raise_from (t ∷ l) s k h e =
    elim (raise_from l (once t s) k (omega (arith, try_length t s)) e) [
      | inl q ↦
          elim (try_cases t s k h) [
            | inl p ↦ inl (sym p ∙ q)
            | inr r ↦ inr (record { try = t; listed = here refl; passes = r.0.0; is = r.0.1 })
          ]
      | inr r ↦ inr (record { try = r.try; listed = there r.listed; passes = r.passes; is = r.is })
    ]

pub raise_append : (l m : List Try) (s : List ℕ) → raise_all (l ++ m) s ≡ raise_all m (raise_all l s)
unfolding raise_all
raise_append [] m s = refl
raise_append (t ∷ l) m s = raise_append l m (once t s)

-- where each arrival tries some flags, all are tried
run_tries : (act : Visit → List ℕ → List ℕ) (tries : Visit → List Try)
    → ((v : Visit) (s : List ℕ) → act v s ≡ raise_all (tries v) s) → (l : List Visit) (s : List ℕ)
    → run act l s ≡ raise_all (concat_map tries l) s
unfolding run raise_all
run_tries act tries is [] s = refl
run_tries act tries is (v ∷ l) s =
    run_tries act tries is l (act v s)
    ∙ ap (raise_all (concat_map tries l)) (is v s)
    ∙ sym (raise_append (tries v) (concat_map tries l) s)

-- the flags told are those that some try of the list raises
tries_marked : (n : ℕ) (Told : ℕ → Type 0) (l : List Try) (s : List ℕ) → length s ≡ n
    → ((t : Try) → t ∈ l → t.passes ≡ true → Told t.flag)
    → ((k : ℕ) → Told k → Raised l k)
    → Marked n Told s (raise_all l s)
tries_marked n Told l s long out back =
    record {
      exactly = λ k few. (
        λ e.
            elim (raise_from l s k (omega arith) e) [
              | inl q ↦ inl q
              | inr r ↦ inr (subst Told r.is (out r.try r.listed r.passes))
            ],
        λ e.
            elim e [
              | inl q ↦ raise_up l s k (omega arith) q
              | inr t ↦
                  let r = back k t in
                  raise_raised l s k r.try (omega arith) r.listed (r.passes, r.is)
            ],
      );
    }

-- ---- the marks of a node
module _ (w : List ℕ) (ok : is_timetable w ≡ true) (a d : ℕ) where
  abbrev sure : Timely w
  sure = timely w ok

  -- riders leave at minute d or later
  ride_late : (rev : List Transfer) → ((g p : ℕ) → Paid w a d rev g p → d ≤ depart w g) → (j p : ℕ)
      → Arrived w a d rev j p → (i : ℕ) × Goes w i × (suc i ≡ j) × (d ≤ depart w i)
  ride_late rev late j p h = go h.stops h.some h.rides h.to
    where
      go : (n : ℕ) → 1 ≤ n → ((k : ℕ) → k < n → Goes w (h.from + k)) → h.from + n ≡ j
          → (i : ℕ) × Goes w i × (suc i ≡ j) × (d ≤ depart w i)
      go zero o r e = absurd (omega arith)
      go (suc n) o r e =
          let goes = r n (omega arith) in (
            h.from + n,
            goes,
            omega arith,
            omega (
              arith,
              late h.from h.paid h.boards,
              departs_later w sure n h.from (λ k l. r k (omega arith)) goes,
            ),
          )

  paid_late : (rev : List Transfer) (g p : ℕ) → Paid w a d rev g p → d ≤ depart w g
  paid_late [] g p h = h.2
  paid_late (c ∷ rev) g p h =
      let r = ride_late rev (paid_late rev) h.at h.before h.rode in
      let forward = sure.before r.0 r.1 in
      omega (arith, r.3, ap (arrive w) r.2, h.catches.catches.timely)

  module _
      (rev : List Transfer)
      (c : ℕ)
      (there-c : boards_at a rev ≡ c)
      (x : List ℕ)
      (labels : Labelled w a d rev c x)
      (allowed : List ℕ)
    where
      abbrev all : List Visit
      all = boardings w c x (waiting w c)

      module _ (v : Visit) (m : v ∈ all) where
        arrived : Arrived w a d rev v.stop v.paid
        arrived = boardings_arrived w ok c x a d rev labels v m

        behind : (i : ℕ) × Goes w i × (suc i ≡ v.stop) × (d ≤ depart w i)
        behind = ride_late rev (paid_late rev) v.stop v.paid arrived

        some : 1 ≤ station w v.stop
        some =
            let r = behind in
            omega (arith, sure.next_first r.0 r.1, ap (station w) r.2)

        listed : station w v.stop ≤ station_count w
        listed =
            let r = behind in
            omega (arith, sure.next_listed r.0 r.1, ap (station w) r.2)

        arrived_next : Arrived w a d rev (suc behind.0) v.paid
        arrived_next = subst (λ j. Arrived w a d rev j v.paid) (sym behind.2) arrived

      -- ---- arcs
      abbrev arc_tries : Visit → List Try
      arc_tries v = ends_try w allowed v ∷ []

      ends : (v : Visit) → v ∈ all → (ends_try w allowed v).passes ≡ true
          → Ends w a d allowed rev (suc (ends_try w allowed v).flag)
      unfolding ends_try
      ends v m e =
          let r = behind v m in
          record {
            i = r.0;
            paid = v.paid;
            goes = r.1;
            arrived = arrived_next v m;
            here = omega (arith, ap (station w) r.2, some v m);
            within =
                subst (λ j. v.paid < get_or allowed j 0) (sym r.2)
                (ltb→lt v.paid (get_or allowed v.stop 0) (rw e tt));
          }

      arc_told : (t : Try) → t ∈ concat_map arc_tries all → t.passes ≡ true → Ends w a d allowed rev (suc t.flag)
      arc_told t m e =
          let o = concat_map_out arc_tries all m in
          cons_cases o.2
          (λ q.
          subst (λ (z : Try). Ends w a d allowed rev (suc z.flag)) (sym q)
          (ends o.0 o.1 (ap (λ (z : Try). z.passes) (sym q) ∙ e)))
          (λ k. none k)

      arc_raised : (k : ℕ) → Ends w a d allowed rev (suc k) → Raised (concat_map arc_tries all) k
      unfolding ends_try
      arc_raised k h =
          let l = boardings_least w ok c x a d rev labels there-c (suc h.i) h.paid h.arrived in
          let v = visit (suc h.i) l.paid in
          record {
            try = ends_try w allowed v;
            listed = concat_map_in arc_tries l.listed (here refl);
            passes = lt-ltb l.paid (get_or allowed (suc h.i) 0) (omega (arith, l.least, h.within));
            is = omega (arith, h.here);
          }

      pub arcs_marked : (arcs : List ℕ) → length arcs ≡ 64
          → Marked 64 (λ k. Ends w a d allowed rev (suc k)) arcs (run (flag_arc w allowed) all arcs)
      unfolding flag_arc
      arcs_marked arcs long =
          subst (Marked 64 (λ k. Ends w a d allowed rev (suc k)) arcs)
          (sym (run_tries (flag_arc w allowed) arc_tries (λ v s. refl) all arcs))
          (tries_marked 64 (λ k. Ends w a d allowed rev (suc k)) (concat_map arc_tries all) arcs long arc_told
          arc_raised)

      -- ---- kids
      module _ (q : List ℕ) (few : length q ≡ 2048) (bounded : Bounded w allowed d (catch_by w) q) where
        module _ (way : Change) (is-way : way ∈ ways_of w) where
          -- the test is what the bounds say
          onto : (i p : ℕ) → station w (suc i) ≡ way.from → Goes w i → d ≤ depart w i
              → p + way.points < get_or q (catch_by w way (suc i)) 0 → OntoWell w allowed way (suc i) p
          onto i p from goes late h =
              either
              (ltb (catch_by w way (suc i)) nowhere)
              (λ t. (bounded.there way i p is-way from goes late (ltb→lt (catch_by w way (suc i)) nowhere t)).0 h)
              (λ t.
              let far = nltb→le (catch_by w way (suc i)) nowhere t in
              let out = get_or-eq_default q 0 {n = catch_by w way (suc i)} (omega arith) in
              absurd (omega arith))

          onto_test : (i p : ℕ) → station w (suc i) ≡ way.from → Goes w i → d ≤ depart w i
              → OntoWell w allowed way (suc i) p → p + way.points < get_or q (catch_by w way (suc i)) 0
          onto_test i p from goes late h =
              either
              (ltb (catch_by w way (suc i)) nowhere)
              (λ t. (bounded.there way i p is-way from goes late (ltb→lt (catch_by w way (suc i)) nowhere t)).1 h)
              (λ t.
              absurd (bounded.none way i p is-way from goes late (nltb→le (catch_by w way (suc i)) nowhere t) h))

          -- one whose slot is tried
          goes_on : (v : Visit) → v ∈ all → station w v.stop ≡ way.from → (s : ℕ) → SlotOf w ok way s
              → (change_try w q v way s).passes ≡ true → Slotted w (GoesOn w a d allowed rev) s
          unfolding change_try
          goes_on v m from s slot e =
              let r = behind v m in
              let t = ltb→lt (v.paid + way.points) (get_or q (catch_by w way v.stop) 0) (rw e tt) in
              record {
                listed = slot.listed;
                holds =
                    record {
                      i = r.0;
                      paid = v.paid;
                      way = way;
                      goes = r.1;
                      arrived = arrived_next v m;
                      is = sym slot.is;
                      onto =
                          onto r.0 v.paid (ap (station w) r.2 ∙ from) r.1 r.3
                          (subst (λ j. v.paid + way.points < get_or q (catch_by w way j) 0) (sym r.2) t);
                    };
              }

        -- the ways of changing that an arrival tries
        stay_slot : (v : Visit) → v ∈ all → SlotOf w ok (stay w (station w v.stop)) (here_slot (station w v.stop))
        stay_slot v m =
            let b = station w v.stop in
            here_slot_lem w ok (stay w b) b (stay_way w ok b (some v m) (listed v m)) refl refl

        from_range : (v : Visit) → v ∈ all → (k : ℕ) → k ∈ walks_from w (station w v.stop)
            → FromStation w (station w v.stop) k
        from_range v m k i =
            let b = station w v.stop in
            let r = range_out (walks_to w (b - 1)) (walks_to w b - walks_to w (b - 1)) k i in
            record { begun = r.0; inside = omega (arith, r.0, r.1) }

        in_range_lem : (y k : ℕ) → FromStation w y k → k ∈ walks_from w y
        in_range_lem y k f =
            range_in (walks_to w (y - 1)) (walks_to w y - walks_to w (y - 1)) k f.begun
            (omega (arith, f.begun, f.inside))

        slot_told : (t : Try) → t.passes ≡ true → (v : Visit) → v ∈ all → (way : Change) (s : ℕ) → way ∈ ways_of w
            → station w v.stop ≡ way.from → SlotOf w ok way s → t ≡ change_try w q v way s
            → Slotted w (GoesOn w a d allowed rev) t.flag
        unfolding change_try
        slot_told t e v m way s is-way from slot is =
            subst (λ (z : Try). Slotted w (GoesOn w a d allowed rev) z.flag) (sym is)
            (goes_on way is-way v m from s slot (ap (λ (z : Try). z.passes) (sym is) ∙ e))

        visit_told : (t : Try) → t.passes ≡ true → (v : Visit) → v ∈ all → t ∈ change_tries w q v
            → Slotted w (GoesOn w a d allowed rev) t.flag
        unfolding change_tries walk_tries
        visit_told t e v m i =
            let b = station w v.stop in
            cons_cases i
            (λ is.
            slot_told t e v m (stay w b) (here_slot b) (stay_way w ok b (some v m) (listed v m)) refl (stay_slot v m)
            is)
            (λ j.
            let r = Memᴰ.of_map (λ k. change_try w q v (on_foot (walk_at w k)) (walk_slot w k)) (walks_from w b) j in
            let k = r.0 in
            let f = from_range v m k r.1 in
            slot_told t e v m (on_foot (walk_at w k)) (walk_slot w k) (from_way w ok b k (some v m) (listed v m) f)
            (sym (walk_from w ok b k (some v m) (listed v m) f))
            (walk_slot_lem w ok k (from_few w ok b k (listed v m) f))
            (sym r.2))

        kid_told : (t : Try) → t ∈ concat_map (change_tries w q) all → t.passes ≡ true
            → Slotted w (GoesOn w a d allowed rev) t.flag
        kid_told t m e =
            let o = concat_map_out (change_tries w q) all m in
            visit_told t e o.0 o.1 o.2

        -- each way of changing is tried, at its slot
        record Tried (v : Visit) (way : Change) : Type 0 where
          slot : ℕ
          slot_of : SlotOf w ok way slot
          tried : change_try w q v way slot ∈ change_tries w q v

        tries : (v : Visit) → v ∈ all → (way : Change) → way ∈ ways_of w → way.from ≡ station w v.stop → Tried v way
        unfolding change_tries walk_tries
        tries v m =
            let b = station w v.stop in
            each_way w ok (Tried v) b
            (record { slot = here_slot b; slot_of = stay_slot v m; tried = here refl })
            (λ k f.
            record {
              slot = walk_slot w k;
              slot_of = walk_slot_lem w ok k (from_few w ok b k (listed v m) f);
              tried =
                  there (Memᴰ.map (λ k. change_try w q v (on_foot (walk_at w k)) (walk_slot w k)) (in_range_lem b k f));
            })

        kid_raised : (s : ℕ) → Slotted w (GoesOn w a d allowed rev) s → Raised (concat_map (change_tries w q) all) s
        unfolding change_try
        kid_raised s told =
            let h = told.holds in
            let way = h.way in
            let l = boardings_least w ok c x a d rev labels there-c (suc h.i) h.paid h.arrived in
            let r = ride_late rev (paid_late rev) (suc h.i) h.paid h.arrived in
            let same : r.0 ≡ h.i = omega (arith, r.2) in
            let late : d ≤ depart w h.i = omega (arith, r.3, ap (depart w) same) in
            let from = h.onto.catches.from in
            let is-way = h.onto.catches.listed in
            let t = onto_test way is-way h.i h.paid from h.goes late h.onto in
            let v = visit (suc h.i) l.paid in
            let o = tries v l.listed way is-way (sym from) in
            record {
              try = change_try w q v way o.slot;
              listed = concat_map_in (change_tries w q) l.listed o.tried;
              passes =
                  lt-ltb (l.paid + way.points) (get_or q (catch_by w way (suc h.i)) 0) (omega (arith, l.least));
              is =
                  slot_unique w ok o.slot s o.slot_of.listed told.listed (o.slot_of.is ∙ h.is);
            }

        pub kids_marked : (kids : List ℕ) → length kids ≡ 320
            → Marked 320 (Slotted w (GoesOn w a d allowed rev)) kids (run (flag_kids w q) all kids)
        unfolding flag_kids
        kids_marked kids long =
            subst (Marked 320 (Slotted w (GoesOn w a d allowed rev)) kids)
            (sym (run_tries (flag_kids w q) (change_tries w q) (λ v s. refl) all kids))
            (tries_marked 320 (Slotted w (GoesOn w a d allowed rev)) (concat_map (change_tries w q) all) kids long
            kid_told kid_raised)

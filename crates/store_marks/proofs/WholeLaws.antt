-- All who board at a station, one after the other, and what comes of it: the labels behind one change more, and the
-- marks of a node.
use mathlib.Core.Path.{◌≡◌, sym, ap, subst, ◌∙◌}
use mathlib.Core.Bool.{true, false, false≢true}
use mathlib.Core.List.{List, [], ◌∷◌, ◌++◌}
use Prim.Native.Nat.{ℕ, suc, ◌+◌, ◌^◌, ◌≤◌, ◌<◌}
use native.Mathlib.Numerals.{add-one}
use native.Mathlib.Omega.{arith}
use borrow.Author.Tests.{lt-ltb, le-ltb, eq-eqb, ne_eqb}
use lib.ListN.{length, get_or}
use lib.Seq.{slice, slice-cons, slice_empty}
use Rattle.lists.specs.Lists.{◌∈◌}
use Rattle.timetable.specs.Timetable.{Walk}
use Rattle.timetable.specs.Words.{station_count, walks_to, walk_at, is_timetable}
use Rattle.timetable.specs.Access.{stations_few}
use Rattle.timetable.specs.Walks.{walks_few, walks_rise}
use Rattle.connections.specs.Connections.{Change, on_foot}
use Rattle.store_stops.specs.Stopwise.{unreached, ways_of}
use Rattle.store_stops.specs.Ways.{stay_way, foot_way}
use Rattle.store_stops.specs.Paid.{Labelled}
use Rattle.store_stops.specs.Prospects.{Ends, GoesOn}
use Rattle.store_slots.specs.Slots.{transfer_at}
use Rattle.store_slots.specs.SlotLaws.{slot_small, slot_stations}
use Rattle.store_departures.specs.Order.{waiting}
use Rattle.store_departures.specs.Held.{Departures}
use Rattle.store_marks.specs.Arrays.{fill, fall}
use Rattle.store_marks.specs.Riding.{Visit, boarding, boardings, run, offer, rides, rides_by, stepped}
use Rattle.store_marks.specs.Riding.{staying, stays, foots, flag_arc, flag_kids}
use Rattle.store_marks.specs.Held.{Way}
use Rattle.store_marks.specs.Ways.{RidesBetween, between}
use Rattle.store_marks.specs.Stepping.{pair, pair_same, Leads, Onward, Steps, Stepped, run_append}
use Rattle.store_marks.specs.Stepping.{Keeps, step_labelled, step_keeps}
use Rattle.store_marks.specs.Marking.{Marked, Slotted, ArcsMarked, KidsMarked, arcs_marked, kids_marked}
use Rattle.store_marks.proofs.PartLaws.{part}

next : (l : List ℕ) (k end g : ℕ) → g ≡ get_or l k 0 → k < end → end ≤ length l
    → slice k end l ≡ g ∷ slice (k + 1) end l
next l k end g is more room =
    slice-cons k end l 0 more room
    ∙ ap (λ i. get_or l k 0 ∷ slice i end l) (sym (add-one k))
    ∙ ap (λ z. z ∷ slice (k + 1) end l) (sym is)

-- ---- the departures of station c, from place k up to place end
module _
    (w chain first : List ℕ)
    (ok : is_timetable w ≡ true)
    (held : Departures w chain first)
    (c : ℕ)
    (listed : c ≤ station_count w)
    (begin end : ℕ)
    (from : begin ≡ get_or first c 0)
    (to : end ≡ get_or first (c + 1) 0)
  where
    pub rides_start : (way : Change) (x : List ℕ)
        → rides w c way (waiting w c) x ≡ rides w c way (slice begin end chain) x
    rides_start way x = ap (λ l. rides w c way l x) (sym (part w chain first ok held c listed begin end from to))

    pub boards_start : (act : Visit → List ℕ → List ℕ) (x s : List ℕ)
        → run act (boardings w c x (waiting w c)) s ≡ run act (boardings w c x (slice begin end chain)) s
    boards_start act x s =
        ap (λ l. run act (boardings w c x l) s) (sym (part w chain first ok held c listed begin end from to))

-- one of them is taken
pub rides_on : (w chain whole x x' : List ℕ) (way : Change) (c k end g : ℕ)
    → whole ≡ rides w c way (slice k end chain) x
    → x' ≡ run (offer w way) (boarding w c x g) x
    → g ≡ get_or chain k 0 → k < end → end ≤ length chain
    → whole ≡ rides w c way (slice (k + 1) end chain) x'
unfolding rides
rides_on w chain whole x x' way c k end g left does is more room =
    left
    ∙ ap (λ l. rides w c way l x) (next chain k end g is more room)
    ∙ ap (rides w c way (slice (k + 1) end chain)) (sym does)

pub boards_on : (act : Visit → List ℕ → List ℕ) (w chain whole x s s' : List ℕ) (c k end g : ℕ)
    → whole ≡ run act (boardings w c x (slice k end chain)) s
    → s' ≡ run act (boarding w c x g) s
    → g ≡ get_or chain k 0 → k < end → end ≤ length chain
    → whole ≡ run act (boardings w c x (slice (k + 1) end chain)) s'
unfolding boardings
boards_on act w chain whole x s s' c k end g left does is more room =
    left
    ∙ ap (λ l. run act (boardings w c x l) s) (next chain k end g is more room)
    ∙ run_append act (boarding w c x g) (boardings w c x (slice (k + 1) end chain)) s
    ∙ ap (run act (boardings w c x (slice (k + 1) end chain))) (sym does)

module _ (w chain : List ℕ) (c k end : ℕ) (inside : k ≤ end) (done : end ≤ k) where
  over : slice k end chain ≡ []
  over =
      let e : k ≡ end = omega arith in
      ap (λ i. slice i end chain) e ∙ slice_empty end chain

  pub rides_done : (whole x : List ℕ) (way : Change) → whole ≡ rides w c way (slice k end chain) x → x ≡ whole
  unfolding rides
  rides_done whole x way left = sym (left ∙ ap (λ l. rides w c way l x) over)

  module _ (ok : is_timetable w ≡ true) (x old new : List ℕ) where
    boards_done : (act : Visit → List ℕ → List ℕ) (whole : List ℕ)
        → whole ≡ run act (boardings w c x (slice k end chain)) new → new ≡ whole
    unfolding run boardings
    boards_done act whole left = sym (left ∙ ap (λ l. run act (boardings w c x l) new) over)

    module _ (allowed : List ℕ) where
      pub marks_arcs : length old ≡ 64
          → run (flag_arc w allowed) (boardings w c x (waiting w c)) old
          ≡ run (flag_arc w allowed) (boardings w c x (slice k end chain)) new
          → ArcsMarked w c x allowed old new
      marks_arcs long left =
          record {
            marked = λ a d rev there-c labels.
                subst (Marked 64 (λ k. Ends w a d allowed rev (suc k)) old)
                (sym (boards_done (flag_arc w allowed) _ left))
                (arcs_marked w ok a d rev c there-c x labels allowed old long);
          }

      pub marks_kids : length old ≡ 320 → (q : List ℕ) → length q ≡ 2048
          → run (flag_kids w q) (boardings w c x (waiting w c)) old
          ≡ run (flag_kids w q) (boardings w c x (slice k end chain)) new
          → KidsMarked w c x allowed q old new
      marks_kids long q few left =
          record {
            marked = λ a d rev there-c labels bounded.
                subst (Marked 320 (Slotted w (GoesOn w a d allowed rev)) old)
                (sym (boards_done (flag_kids w q) _ left))
                (kids_marked w ok a d rev c there-c x labels allowed q few bounded old long);
          }

-- ---- the ways of one change
module _ (w : List ℕ) (ok : is_timetable w ≡ true) where
  pub own_held : (y : ℕ) (way : Walk) → 1 ≤ y → y ≤ station_count w → way ≡ staying w y → Way w true way
  own_held y way some listed is =
      record {
        listed = subst (λ (v : Walk). on_foot v ∈ ways_of w) (sym is) (stay_way w ok y some listed);
        stays = λ e. is ∙ ap (staying w) (sym (ap (λ (v : Walk). v.from) is));
      }

  module _ (y : ℕ) (listed : y ≤ station_count w) where
    pub station_low : y ≤ 64
    station_low = omega (arith, stations_few w ok)

    pub station_fits : y < 2 ^ 32
    station_fits = omega (arith, station_low)

    module _ (k end : ℕ) (is : end ≡ walks_to w y) (inside : k < end) where
      walk_listed_lem : k < walks_to w (station_count w)
      walk_listed_lem = omega (arith, walks_rise w ok y (station_count w) listed (omega arith))

      pub walk_room : k < 256
      walk_room = omega (arith, walk_listed_lem, walks_few w ok)

      pub walk_held : (way : Walk) → way ≡ walk_at w k → Way w false way
      walk_held way at =
          record {
            listed = subst (λ (v : Walk). on_foot v ∈ ways_of w) (sym at) (foot_way w ok k walk_listed_lem);
            stays = λ e. absurd (false≢true e);
          }

module _ (w : List ℕ) (c y : ℕ) (x : List ℕ) where
  pub own_rides : (e : ℕ) (way : Walk) (x' : List ℕ) → y ≡ e → way ≡ staying w y
      → x' ≡ rides w c (on_foot way) (waiting w c) x → x' ≡ rides_by w c (stays w y e) x
  unfolding stays rides_by
  own_rides e way x' here is does =
      does ∙ ap (λ (v : Walk). rides w c (on_foot v) (waiting w c) x) is ∙ rw (eq-eqb y e here)

  pub own_not : (e : ℕ) → (y ≡ e → ⊥) → x ≡ rides_by w c (stays w y e) x
  unfolding stays rides_by
  own_not e other = rw (ne_eqb y e other)

  module _ (k end : ℕ) (is : end ≡ walks_to w y) where
    pub walk_rides : (way : Walk) (x' : List ℕ) → k < end → way ≡ walk_at w k
        → x' ≡ rides w c (on_foot way) (waiting w c) x → x' ≡ rides_by w c (foots w y k) x
    unfolding foots rides_by
    walk_rides way x' inside at does =
        does
        ∙ ap (λ (v : Walk). rides w c (on_foot v) (waiting w c) x) at
        ∙ rw (lt-ltb k (walks_to w y) (rw is at inside))

    pub walk_not : end ≤ k → x ≡ rides_by w c (foots w y k) x
    unfolding foots rides_by
    walk_not past = rw (le-ltb k (walks_to w y) (rw is at past))

-- ---- the labels behind one change more
module _
    (w chain first : List ℕ)
    (ok : is_timetable w ≡ true)
    (held : Departures w chain first)
    (c y e : ℕ)
    (leads : Leads w c y e)
    (begin end : ℕ)
    (from : begin ≡ get_or first e 0)
    (to : end ≡ get_or first (e + 1) 0)
    (x₀ x₁ x₂ x₃ : List ℕ)
    (long : length x₀ ≡ 2048)
    (cleared : x₁ ≡ fill (λ g. unreached) (slice begin end chain) x₀)
    (ridden : RidesBetween w c y e x₁ x₂)
    (settled : x₃ ≡ fall unreached (slice begin end chain) x₂)
  where
    abbrev ways : List Change
    ways = stays w y e ++ foots w y ridden.k

    is_stepped : x₃ ≡ stepped w c ways e x₀
    unfolding stepped
    is_stepped =
        let p = part w chain first ok held e leads.listed begin end from to in
        settled
        ∙ ap (λ l. fall unreached l x₂) p
        ∙ ap (fall unreached (waiting w e)) (ridden.is
        ∙ ap (rides_by w c ways) (cleared ∙ ap (λ l. fill (λ g. unreached) l x₀) p))

    pub steps : Steps w c (pair y e) x₀ x₃
    steps =
        let ways-are = between w ok y e leads.first leads.last ridden.k ridden.sought in
        record {
          next = λ a d rev there-c labels.
              subst (Labelled w a d (pair y e ∷ rev) e) (sym is_stepped)
              (step_labelled w ok c (pair y e) leads.apart ways ways-are x₀ long a d rev there-c labels);
          keeps =
              subst (Keeps w e x₀) (sym is_stepped)
              (step_keeps w ok c (pair y e) leads.apart ways ways-are x₀ long);
        }

-- ---- the change of a slot
module _ (w : List ℕ) (c s : ℕ) (onward : Onward w c s) where
  pub slot_room : is_timetable w ≡ true → s < 320
  slot_room ok = slot_small w ok s onward.listed

  pub slot_leads : is_timetable w ≡ true → (y e : ℕ) → y ≡ (transfer_at w s).alighted → e ≡ (transfer_at w s).boarded
      → Leads w c y e
  slot_leads ok y e alights boards =
      let t = slot_stations w ok s onward.listed in
      record {
        first = omega (arith, t.alighted_first);
        last = omega (arith, t.alighted_last);
        listed = omega (arith, t.boarded_last);
        apart = λ q. onward.apart (q ∙ boards);
      }

  pub slot_boards : is_timetable w ≡ true → (e : ℕ) → e ≡ (transfer_at w s).boarded → e ≤ station_count w
  slot_boards ok e boards = omega (arith, (slot_stations w ok s onward.listed).boarded_last)

pub slot_stepped : (w : List ℕ) (c s y e : ℕ) (x x' : List ℕ) → y ≡ (transfer_at w s).alighted
    → e ≡ (transfer_at w s).boarded → Steps w c (pair y e) x x' → Stepped w c s e x x'
slot_stepped w c s y e x x' alights boards step =
    let same : pair y e ≡ transfer_at w s = pair_same alights boards in
    record { steps = subst (λ t. Steps w c t x x') same step; boards = boards }

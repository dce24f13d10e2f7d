-- What is left behind each ride of a path, from the target back.
use mathlib.Core.Path.{◌≡◌, sym, ap, subst, ◌∙◌}
use mathlib.Core.Bool.{true}
use mathlib.Core.List.{List, [], ◌∷◌}
use Prim.Native.Nat.{ℕ, suc, ◌+◌, ◌-◌, ◌*◌, ◌≤◌, ◌<◌}
use native.Mathlib.Omega.{arith}
use lib.Dec.{T}
use lib.ListN.{length, get_or}
use lib.Seq.{slice, slice_empty, slice-cons}
use Rattle.timetable.specs.Timetable.{valid}
use Rattle.timetable.specs.Words.{station_count, timetable_of, is_timetable}
use Rattle.timetable.specs.Check.{length_stations}
use Rattle.timetable.specs.Access.{spelled_valid}
use Rattle.lists.specs.Lists.{◌∈◌}
use Rattle.connections.specs.Rides.{Ride}
use Rattle.connections.specs.Connections.{Net, net, Boards}
use Rattle.query_nearest.specs.Nearest.{Nearer}
use Rattle.query_minutes.specs.Minutes.{blank}
use Rattle.query_rides.specs.Ridden.{near_rides, rides_near, read_bounds}
use Rattle.query_rides.specs.declared.Way.{Way}
use Rattle.query_rides.specs.Ways.{way_between, open_way}
use Rattle.query_rests.specs.Rests.{Rests, RestsAt}
use Rattle.query_rests.specs.Spans.{Spans, Arrived}
use Rattle.query_rests.specs.Stepping.{rides_to, stepped, noted_spans, rests_before, rests_end}
use Rattle.query_rests.specs.Turns.{gather_back, step_back}
use Rattle.query_rests.specs.Given.{Given}
use Rattle.query_rests.proofs.GatherLaws.{gathered_from}

-- ---- a listed station
module _ (w : List ℕ) (accepted : is_timetable w ≡ true) where
  pub is_valid : T (valid (timetable_of w))
  is_valid = rw (spelled_valid w accepted) tt

  pub station_inside : (x : ℕ) → x ≤ station_count w → x ≤ length (timetable_of w).stations
  station_inside x most = omega (arith, length_stations w)

pub named_first : (path : List ℕ) (k x : ℕ) → x ≡ get_or path k 0 → 1 ≤ get_or path k 0 → 1 ≤ x
named_first path k x e h = omega (arith, e)

pub named_most : (w path : List ℕ) (k x : ℕ) → x ≡ get_or path k 0 → get_or path k 0 ≤ station_count w → x ≤
    station_count w
named_most w path k x e h = omega (arith, e)

-- ---- the stations between ride j of a path and the ride before it
module _ (w lines path : List ℕ) (j v : ℕ) (given : Given w lines path (j + 1) v) (later : 1 ≤ j) where
  pub back_first : 1 ≤ get_or path (2 * j - 2) 0
  back_first = (given.listed.at (2 * j - 2) (omega arith)).0

  pub back_most : get_or path (2 * j - 2) 0 ≤ station_count w
  back_most = (given.listed.at (2 * j - 2) (omega arith)).1

  pub back_few : j < 64
  back_few = omega (arith, given.few)

  pub back_inside : 2 * j < length path
  back_inside = omega (arith, given.long)

  -- where ride j is boarded
  abbrev x : ℕ
  x = get_or path (2 * j - 1) 0

  x_first : 1 ≤ x
  x_first = (given.listed.at (2 * j - 1) (omega arith)).0

  x_inside : x ≤ length (timetable_of w).stations
  x_inside = station_inside w given.accepted x (given.listed.at (2 * j - 1) (omega arith)).1

  -- nothing is noted outside the window
  pub gathered_spans : (minute : ℕ) (z copy empty full : List ℕ) → minute ≤ v → Spans minute v z
      → copy ≡ z
      → empty ≡ blank
      → full ≡ gather_back w lines minute path j copy empty
      → Spans minute v full
  unfolding gather_back rides_to
  gathered_spans minute z copy empty full early spans c e f =
      subst (Spans minute v) (sym (gathered_from w lines path minute j z copy empty full c e f))
      (noted_spans minute v early given.timely way z spans rides useful)
    where
      way : Way
      way = way_between w (get_or path (2 * j - 2) 0) x

      rides : ℕ → List Ride
      rides = rides_to lines x (get_or path (2 * j) 0)

      useful : (u : ℕ) (r : Ride) → r ∈ rides u → (u ≤ r.depart) × (r.depart < r.arrive)
      useful u r m =
          let to = get_or path (2 * j) 0 in
          let bounds = read_bounds w lines x to u given.accepted given.own x_first x_inside r m in
          (bounds.leaves, bounds.later)

pub kept_spans : (minute v : ℕ) (z copy : List ℕ) → Spans minute v z → copy ≡ z → Spans minute v copy
kept_spans minute v z copy s e = subst (Spans minute v) (sym e) s

-- ---- from the target back

-- On the way back to ride i of a path of r rides one is at ride j, and z holds what is left behind that.
pub record Back (w path : List ℕ) (r v t i j : ℕ) (z : List ℕ) : Type 0 where
  pub past : i ≤ j
  pub inside : j < r
  pub rests : RestsAt w path r v t j z

module _ (w lines path : List ℕ) (r v : ℕ) (given : Given w lines path r v) where
  accepted : is_timetable w ≡ true
  accepted = given.accepted

  -- what is known of a path is known of its first rides
  pub given_part : (j : ℕ) → j < r → Given w lines path (j + 1) v
  given_part j h =
      record {
        enough = given.enough;
        accepted = given.accepted;
        own = given.own;
        listed = record { at = λ i g. given.listed.at i (omega arith) };
        few = omega (arith, given.few);
        long = omega (arith, given.long);
        timely = given.timely;
      }

  module _ (minute i : ℕ) where
    abbrev n : Net
    n = net (timetable_of w)

    abbrev b : ℕ
    b = get_or path (2 * r - 2) 0

    slice_end : (k : ℕ) → k ≡ 2 * r - 1 → slice k (2 * r - 1) path ≡ []
    slice_end k e = ap (λ k. slice k (2 * r - 1) path) e ∙ slice_empty (2 * r - 1) path

    slice_more : (k : ℕ) → k < 2 * r - 1 → slice k (2 * r - 1) path ≡ get_or path k 0 ∷ slice (suc k) (2 * r - 1) path
    slice_more k h = slice-cons k (2 * r - 1) path 0 h given.long

    pub rest_begins : (z : List ℕ) → i < r → Arrived minute v z → Back w path r v minute i (r - 1) z
    unfolding RestsAt
    rest_begins z h arrived =
        let none : slice (2 * (r - 1) + 1) (2 * r - 1) path ≡ [] = slice_end (2 * (r - 1) + 1) (omega arith) in
        let end : 2 * (r - 1) ≡ 2 * r - 2 = omega arith in
        let y = get_or path (2 * (r - 1)) 0 in
        let here = ap (λ k. get_or path k 0) end in
        let last = rests_end (timetable_of w) (is_valid w accepted) b v minute y here z arrived in
        record {
          past = omega arith;
          inside = omega arith;
          rests = subst (λ q. Rests n b v minute q y z) (sym none) last;
        }

    pub rest_done : (j : ℕ) (z : List ℕ) → Back w path r v minute i j z → j ≤ i → RestsAt w path r v minute i z
    rest_done j z s h =
        let same : j ≡ i = omega (arith, s.past) in
        subst (λ k. RestsAt w path r v minute k z) same s.rests

    rests_more : (j : ℕ) (z new : List ℕ) → minute ≤ v → 1 ≤ j → j < r
        → RestsAt w path r v minute j z
        → new ≡ step_back w lines minute path j z
        → RestsAt w path r v minute (j - 1) new
    unfolding gather_back step_back stepped RestsAt rides_to
    rests_more j z new early less inside s is-new =
        subst (λ k. Rests n b v minute (slice (2 * (j - 1) + 1) (2 * r - 1) path) (get_or path k 0) new) (sym place)
        (subst (λ q. Rests n b v minute q o new) (sym on) (subst (Rests n b v minute (x ∷ y ∷ q) o) (sym is-new) whole))
      where
        -- where the ride before ends, where ride j is boarded, and where it ends
        o : ℕ
        o = get_or path (2 * j - 2) 0

        x : ℕ
        x = get_or path (2 * j - 1) 0

        y : ℕ
        y = get_or path (2 * j) 0

        q : List ℕ
        q = slice (2 * j + 1) (2 * r - 1) path

        place : 2 * (j - 1) ≡ 2 * j - 2
        place = omega arith

        first : 1 ≤ x
        first = (given.listed.at (2 * j - 1) (omega arith)).0

        within : x ≤ length (timetable_of w).stations
        within = station_inside w accepted x (given.listed.at (2 * j - 1) (omega arith)).1

        rides : ℕ → List Ride
        rides = rides_to lines x y

        told : (u : ℕ) (g : Ride) → g ∈ rides u → Boards n x u g × (g.to ≡ y)
        told u = near_rides w lines x y u accepted given.own first within

        near : (u : ℕ) (g : Ride) → Boards n x u g × (g.to ≡ y) → (e : Ride) × (e ∈ rides u) × Nearer e g
        near u = rides_near w lines x y u accepted given.own first within

        whole : Rests n b v minute (x ∷ y ∷ q) o (stepped minute (way_between w o x) z rides)
        whole =
            let there = given.listed.at (2 * j - 2) (omega arith) in
            rests_before (timetable_of w) (is_valid w accepted) b v minute q o x y (way_between w o x)
            (open_way w accepted o x there.0 there.1) rides told near z s (omega (arith, given.timely))

        on : slice (2 * (j - 1) + 1) (2 * r - 1) path ≡ x ∷ y ∷ q
        on =
            let one : 2 * (j - 1) + 1 ≡ 2 * j - 1 = omega arith in
            let two : suc (2 * j - 1) ≡ 2 * j = omega arith in
            let three : suc (2 * j) ≡ 2 * j + 1 = omega arith in
            ap (λ k. slice k (2 * r - 1) path) one
            ∙ slice_more (2 * j - 1) (omega arith)
            ∙ ap (λ k. x ∷ slice k (2 * r - 1) path) two
            ∙ ap (λ l. x ∷ l) (slice_more (2 * j) (omega arith))
            ∙ ap (λ k. x ∷ y ∷ slice k (2 * r - 1) path) three

    pub rest_more : (j : ℕ) (z new : List ℕ) → minute ≤ v → Back w path r v minute i j z → i < j
        → new ≡ step_back w lines minute path j z
        → Back w path r v minute i (j - 1) new
    rest_more j z new early s less is =
        record {
          past = omega arith;
          inside = omega (arith, s.inside);
          rests = rests_more j z new early (omega arith) s.inside s.rests is;
        }

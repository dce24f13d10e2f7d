-- What is caught on foot is written behind the chain, arrival by arrival; the chain itself is not touched.
use mathlib.Core.Path.{◌≡◌, refl, sym, ap, subst, ◌∙◌}
use mathlib.Core.Bool.{true}
use mathlib.Core.Logic.{◌≢◌}
use mathlib.Core.List.Memᴰ
use mathlib.Core.List.{List, [], ◌∷◌, ◌++◌}
use Prim.Native.Nat.{ℕ, suc, ◌+◌, ◌-◌, ◌*◌, ◌^◌, ◌≤◌, ◌<◌}
use native.Mathlib.Numerals.{add-one}
use native.Mathlib.Omega.{arith}
use native.Mathlib.Decide.{dec_le, ℕ_discrete}
use lib.ListN.{length, get_or, take, drop, set, length-set, take-append-drop}
use lib.Seq.{take-suc, take_all, get_or-take, length-take-le, ext_get_or, get_or-set_same, get_or-set_other}
use Rattle.lists.specs.Lists.{◌∈◌}
use Rattle.lists.specs.Members.{none, append_cases, cons_cases}
use Rattle.timetable.specs.Timetable.{Stop, Walk, last_minute}
use Rattle.timetable.specs.Words.{station_count, walks_to, walk_count, walk_at, stop_at, is_timetable}
use Rattle.timetable.specs.Access.{stations_few}
use Rattle.timetable.specs.Walks.{FromStation, walks_few, walks_rise, good_walk}
use Rattle.connections.specs.Connections.{on_foot}
use Rattle.store_stops.specs.Stopwise.{station, arrive, Arrival}
use Rattle.store_stops.specs.TimelyLaws.{timely}
use Rattle.store_departures.specs.Order.{chain, catch_by}
use Rattle.store_departures.specs.Legs.{chain_out, chain_in}
use Rattle.store_departures.specs.Held.{Front, Standing, kept_at, Kept, KeptAll, Departures, goes_few}
use Rattle.store_catches.specs.Keeping.{KeptWalks, Keeping}
use Rattle.store_catches.proofs.CatchLaws.{chain_few, arrives_few, word_is}

-- ---- the chain is not touched
front_taken : (n k : ℕ) (old new : List ℕ) → n ≤ k → n ≤ length old → length new ≡ length old → Front k old new
    → take n new ≡ take n old
front_taken n k old new most room same front =
    ext_get_or 0 (take n new) (take n old)
    (length-take-le n new (omega arith) ∙ sym (length-take-le n old room))
    (λ i h.
    let inside : i < n = omega (arith, length-take-le n new (omega arith)) in
    get_or-take n new i 0 inside ∙ front.same i (omega arith) ∙ sym (get_or-take n old i 0 inside))

module _ (w : List ℕ) (good : is_timetable w ≡ true) (old first : List ℕ) (stands : Standing w old first) where
  pub standing_still : (new : List ℕ) → length new ≡ 20480 → Front 2048 old new → Standing w new first
  standing_still new long front =
      record {
        chain_long = long;
        chain_is =
            front_taken (length (chain w)) 2048 old new (chain_few w good)
            (omega (arith, chain_few w good, stands.chain_long))
            (long ∙ sym stands.chain_long) front
            ∙ stands.chain_is;
        first_listed = stands.first_listed;
        begins = stands.begins;
      }

  pub standing_set : (m x : ℕ) → 2048 ≤ m → Standing w (set old m x) first
  standing_set m x behind =
      standing_still (set old m x) (length-set old m x ∙ stands.chain_long)
      (record { same = λ i h. get_or-set_other old m i x 0 (λ e. omega arith) })

-- ---- an arrival
module _ (w : List ℕ) (good : is_timetable w ≡ true) (j : ℕ) (a : Arrival w j) where
  pub arrival_few : j < 2048
  arrival_few = omega (arith, a.is, goes_few w good a.i a.goes)

  pub arrival_minute : arrive w j ≤ last_minute
  arrival_minute = omega (arith, ap (arrive w) a.is, (timely w good).minute a.i a.goes)

  arrival_some : 1 ≤ station w j
  arrival_some = omega (arith, ap (station w) a.is, (timely w good).next_first a.i a.goes)

  arrival_listed : station w j ≤ station_count w
  arrival_listed = omega (arith, ap (station w) a.is, (timely w good).next_listed a.i a.goes)

  pub word_held : (chained first : List ℕ) → Standing w chained first → 2048 + j < length chained
  word_held chained first stands = omega (arith, arrival_few, stands.chain_long)

  pub word_fits : 2048 + j < 2 ^ 64
  word_fits = omega (arith, arrival_few)

  pub word_scaled : (2048 + j) * 2 < 2 ^ 64
  word_scaled = omega (arith, arrival_few)

  pub word_there : (chained first : List ℕ) → Departures w chained first → 2048 + j < length chained
  word_there chained first held = word_held chained first held.standing

  -- a walk from there
  pub from_listed : (k : ℕ) → FromStation w (station w j) k → k < walk_count w
  from_listed k from =
      omega (arith, from.inside, walks_rise w good (station w j) (station_count w) arrival_listed (omega arith))

  -- at stop s
  module _ (s : Stop) (is : s ≡ stop_at w j) where
    here_is : s.station ≡ station w j
    here_is = ap (λ (x : Stop). x.station) is

    pub here_some : 1 ≤ s.station
    here_some = omega (arith, here_is, arrival_some)

    pub here_most : s.station ≤ 64
    here_most = omega (arith, here_is, arrival_listed, stations_few w good)

    pub before_most : s.station - 1 ≤ 64
    before_most = omega (arith, here_most)

    -- the walks from there
    module _ (begin end : ℕ) (is-begin : begin ≡ walks_to w (s.station - 1)) (is-end : end ≡ walks_to w s.station)
      where
        pub walks_ordered : begin ≤ end
        walks_ordered =
            omega (
              arith,
              walks_rise w good (s.station - 1) s.station (omega arith)
                  (omega (arith, here_is, arrival_listed)),
            )

        pub walks_most_lem : end ≤ walk_count w
        walks_most_lem =
            omega (
              arith,
              walks_rise w good s.station (station_count w) (omega (arith, here_is, arrival_listed)) (omega arith),
            )

        end_few : end ≤ 256
        end_few = omega (arith, walks_most_lem, walks_few w good)

        pub begin_low : (at : ℕ) → 4096 ≤ at → begin ≤ at
        begin_low at h = omega (arith, end_few, walks_ordered)

        from_begun : (k : ℕ) → FromStation w (station w j) k → begin ≤ k
        from_begun k f = omega (arith, f.begun, is-begin, ap (λ c. walks_to w (c - 1)) here_is)

        from_inside : (k : ℕ) → FromStation w (station w j) k → k < end
        from_inside k f = omega (arith, f.inside, is-end, ap (walks_to w) here_is)

        module _ (at base : ℕ) (low : 4096 ≤ at) (is_base : base ≡ at - begin) where
          pub base_begins : 4096 ≤ base + begin
          base_begins = omega (arith, begin_low at low)

          pub base_ends : at + (end - begin) ≤ 20480 → base + end ≤ 20480
          base_ends h = omega (arith, begin_low at low, walks_ordered)

          -- they are all kept
          pub keeps_all : (old new first : List ℕ) → Standing w old first → at + (end - begin) ≤ 20480
              → KeptWalks w j base begin end new → Front (base + begin) (set old (2048 + j) base) new
              → length new ≡ 20480 → Keeping w j at (base + end) old new
          keeps_all old new first stands fits walks front long =
              record {
                long = long;
                others = λ m h e. front.same m (omega (arith, back)) ∙ get_or-set_other old (2048 + j) m base 0 e;
                rises = omega (arith, back, walks_ordered);
                ends = base_ends fits;
                kept =
                    record {
                      begun = λ k f h. omega (arith, here, back, from_begun k f);
                      inside = λ k f h. omega (arith, here, from_inside k f);
                      is = λ k f h.
                          ap (λ b. get_or new (b + k) 0) here ∙ walks.is k (from_begun k f) (from_inside k f);
                    };
              }
            where
              back : base + begin ≡ at
              back = omega (arith, begin_low at low)

              here : kept_at new j ≡ base
              here =
                  front.same (2048 + j) (omega (arith, back, arrival_few))
                  ∙ get_or-set_same old (2048 + j) base 0 (word_held old first stands)

  -- there is no room for them
  pub keeps_none : (at : ℕ) (old first : List ℕ) → Standing w old first → at ≤ 20480
      → Keeping w j at at old (set old (2048 + j) 0)
  keeps_none at old first stands high =
      record {
        long = length-set old (2048 + j) 0 ∙ stands.chain_long;
        others = λ m h e. get_or-set_other old (2048 + j) m 0 0 e;
        rises = omega arith;
        ends = high;
        kept =
            record {
              begun = λ k f h. absurd (omega (arith, here));
              inside = λ k f h. absurd (omega (arith, here));
              is = λ k f h. absurd (omega (arith, here));
            };
      }
    where
      here : kept_at (set old (2048 + j) 0) j ≡ 0
      here = get_or-set_same old (2048 + j) 0 0 (word_held old first stands)

-- ---- one walk
module _ (w : List ℕ) (good : is_timetable w ≡ true) (k : ℕ) (listed : k < walk_count w) where
  pub walk_few : k < 256
  walk_few = omega (arith, walks_few w good)

  module _ (v : Walk) (is : v ≡ walk_at w k) where
    pub walk_near : v.to ≤ 64
    walk_near =
        omega (arith, ap (λ (z : Walk). z.to) is, (good_walk w good k listed).to_last, stations_few w good)

    pub walk_caught : (j r : ℕ) → r ≡ catch_by w (on_foot v) j → r ≡ catch_by w (on_foot (walk_at w k)) j
    walk_caught j r e = e ∙ ap (λ (z : Walk). catch_by w (on_foot z) j) is

-- ---- the walks of a station
module _ (w : List ℕ) (good : is_timetable w ≡ true) (j base begin end : ℕ) where
  pub none_kept : (k : ℕ) (chained : List ℕ) → k ≡ begin → KeptWalks w j base begin k chained
  none_kept k chained e = record { is = λ i h g. absurd (omega arith) }

  module _ (k : ℕ) (begun : begin ≤ k) (inside : k < end) (fits : base + end ≤ 20480) where
    pub place_fits : base + k < 2 ^ 64
    place_fits = omega arith

    pub place_inside : (chained first : List ℕ) → Standing w chained first → base + k < length chained
    place_inside chained first stands = omega (arith, stands.chain_long)

    pub one_kept : (chained first : List ℕ) → Standing w chained first → KeptWalks w j base begin k chained
        → (f : ℕ) → f ≡ catch_by w (on_foot (walk_at w k)) j → KeptWalks w j base begin (k + 1)
        (set chained (base + k) f)
    one_kept chained first stands so_far f is_f = record { is = each }
      where
        each : (i : ℕ) → begin ≤ i → i < k + 1
            → get_or (set chained (base + k) f) (base + i) 0 ≡ catch_by w (on_foot (walk_at w i)) j
        each i h g =
            elim (ℕ_discrete i k) [
              | yes e ↦
                  ap (λ m. get_or (set chained (base + k) f) (base + m) 0) e
                  ∙ get_or-set_same chained (base + k) f 0 (omega (arith, stands.chain_long))
                  ∙ is_f
                  ∙ ap (λ m. catch_by w (on_foot (walk_at w m)) j) (sym e)
              | no e ↦
                  get_or-set_other chained (base + k) (base + i) f 0 (λ q. e (omega arith))
                  ∙ so_far.is i h (omega arith)
            ]

  pub front_further : (k : ℕ) (old chained : List ℕ) (f : ℕ) → begin ≤ k → Front (base + begin) old chained
      → Front (base + begin) old (set chained (base + k) f)
  front_further k old chained f begun so_far =
      record {
        same = λ m h. get_or-set_other chained (base + k) m f 0 (λ q. omega arith) ∙ so_far.same m h;
      }

  pub walks_kept : (k : ℕ) (chained : List ℕ) → end ≤ k → KeptWalks w j base begin k chained
      → KeptWalks w j base begin end chained
  walks_kept k chained least so_far = record { is = λ i h g. so_far.is i h (omega arith) }

module _ (w : List ℕ) (good : is_timetable w ≡ true) (chained first : List ℕ) (stands : Standing w chained first) where
  pub still_long : length chained ≡ 20480
  still_long = stands.chain_long

  pub still_standing : (base begin k x : ℕ) → 4096 ≤ base + begin → begin ≤ k
      → Standing w (set chained (base + k) x) first
  still_standing base begin k x h g = standing_set w good chained first stands (base + k) x (omega arith)

  pub word_standing : (j x : ℕ) → Standing w (set chained (2048 + j) x) first
  word_standing j x = standing_set w good chained first stands (2048 + j) x (omega arith)

pub front_same : (k : ℕ) (l : List ℕ) → Front k l l
front_same k l = record { same = λ m h. refl }

-- ---- the arrivals, one after the other
-- what is kept for the stops behind those of a list
pub record KeptIn (w l : List ℕ) (end : ℕ) (chained : List ℕ) : Type 0 where
  pub kept : (x : ℕ) → x ∈ l → Kept w chained end (suc x)

pub kept_start : (w chained : List ℕ) (end : ℕ) → KeptIn w (take 0 (chain w)) end chained
kept_start w chained end = record { kept = λ x m. none m }

module _ (w : List ℕ) (good : is_timetable w ≡ true) (j at end : ℕ) (old new : List ℕ)
    (keeps : Keeping w j at end old new) (low : 4096 ≤ at) where
  pub end_low : 4096 ≤ end
  end_low = omega (arith, keeps.rises)

  pub end_high : end ≤ 20480
  end_high = keeps.ends

  pub keeps_chain : (first : List ℕ) → Standing w old first → Standing w new first
  keeps_chain first stands =
      standing_still w good old first stands new keeps.long
      (record { same = λ m h. keeps.others m (omega arith) (λ e. omega arith) })

  module _ (few : j < 2048) where
    kept_other : (i : ℕ) → i < 2048 → i ≢ j → Kept w old at i → Kept w new end i
    kept_other i inside e known =
        record {
          begun = λ k f h. omega (arith, same, known.begun k f (omega (arith, same)));
          inside = λ k f h. omega (arith, same, known.inside k f (omega (arith, same)), keeps.rises);
          is = λ k f h.
              let some : 1 ≤ kept_at old i = omega (arith, same) in
              ap (λ b. get_or new (b + k) 0) same
              ∙ keeps.others (kept_at old i + k) (known.inside k f some)
              (λ q. omega (arith, known.begun k f some))
              ∙ known.is k f some;
        }
      where
        same : kept_at new i ≡ kept_at old i
        same = keeps.others (2048 + i) (omega arith) (λ q. e (omega arith))

    kept_next : (n k x : ℕ) → n ≡ length (chain w) → k < n → x ≡ get_or (chain w) k 0 → j ≡ x + 1
        → KeptIn w (take k (chain w)) at old → KeptIn w (take (k + 1) (chain w)) end new
    kept_next n k x is-n h is_x is-j so_far = record { kept = each }
      where
        parts : take (k + 1) (chain w) ≡ take k (chain w) ++ (x ∷ [])
        parts =
            ap (λ i. take i (chain w)) (add-one k)
            ∙ take-suc (chain w) k 0 (omega arith)
            ∙ ap (λ y. take k (chain w) ++ (y ∷ [])) (sym is_x)

        last : (y : ℕ) → y ≡ x → Kept w new end (suc y)
        last y e = subst (Kept w new end) (is-j ∙ add-one x ∙ ap suc (sym e)) keeps.kept

        each : (y : ℕ) → y ∈ take (k + 1) (chain w) → Kept w new end (suc y)
        each y m =
            elim (ℕ_discrete y x) [
              | yes e ↦ last y e
              | no e ↦
                  append_cases (take k (chain w)) (subst (λ l. y ∈ l) parts m)
                  (λ q.
                  kept_other (suc y)
                  (goes_few w good y (chain_out w y (in_chain y m)))
                  (λ z. e (omega (arith, is-j)))
                  (so_far.kept y q))
                  (λ q. cons_cases q (λ z. last y z) (λ z. none z))
            ]
          where
            in_chain : (y : ℕ) → y ∈ take (k + 1) (chain w) → y ∈ chain w
            in_chain y m =
                subst (λ l. y ∈ l) (take-append-drop (k + 1) (chain w)) (Memᴰ.append_left (drop (k + 1) (chain w)) m)

pub kept_more : (w : List ℕ) → is_timetable w ≡ true → (n k x at end : ℕ) (old new first : List ℕ) → Standing w old
    first
    → n ≡ length (chain w) → k < n → x ≡ get_or old k 0 → 4096 ≤ at → Keeping w (x + 1) at end old new
    → KeptIn w (take k (chain w)) at old → KeptIn w (take (k + 1) (chain w)) end new
kept_more w good n k x at end old new first stands is-n h is low keeps so_far =
    kept_next w good (x + 1) at end old new keeps low
    (arrives_few w good (timely w good) n is-n k old first stands h x is)
    n k x is-n h
    (word_is w good (timely w good) n is-n k old first stands h x is)
    refl so_far

pub same_long : (w old new first : List ℕ) → Standing w old first → Standing w new first → length new ≡ length old
same_long w old new first a b = b.chain_long ∙ sym a.chain_long

pub all_kept : (w : List ℕ) → is_timetable w ≡ true → (n k at : ℕ) (chained : List ℕ) → n ≡ length (chain w) → n ≤ k
    → at ≤ 20480 → KeptIn w (take k (chain w)) at chained → KeptAll w chained
all_kept w good n k at chained is-n done high so_far = record { kept = each }
  where
    wider : (i : ℕ) → Kept w chained at i → Kept w chained 20480 i
    wider i known =
        record {
          begun = known.begun;
          inside = λ k f h. omega (arith, known.inside k f h);
          is = known.is;
        }

    each : (j : ℕ) → Arrival w j → Kept w chained 20480 j
    each j a =
        wider j
        (subst (Kept w chained at) a.is
        (so_far.kept a.i
        (subst (λ l. a.i ∈ l) (sym (take_all k (chain w) (omega arith)))
        (chain_in w good (timely w good) a.i a.goes))))

-- ---- what is kept is read
module _ (w : List ℕ) (chained first : List ℕ) (held : Departures w chained first) (j k base : ℕ) (a : Arrival w j)
    (from : FromStation w (station w j) k) (is : base ≡ get_or chained (2048 + j) 0) where
  known : Kept w chained 20480 j
  known = held.all_kept.kept j a

  some : (base ≡ 0 → ⊥) → 1 ≤ get_or chained (2048 + j) 0
  some h = elim (dec_le 1 base) [ yes g ↦ omega arith | no g ↦ absurd (h (omega arith)) ]

  pub kept_fits : (base ≡ 0 → ⊥) → base + k < 2 ^ 64
  kept_fits h = omega (arith, known.inside k from (some h))

  pub kept_inside : (base ≡ 0 → ⊥) → base + k < length chained
  kept_inside h = omega (arith, known.inside k from (some h), held.standing.chain_long)

  pub kept_caught : (base ≡ 0 → ⊥) → (r : ℕ) → r ≡ get_or chained (base + k) 0 → r ≡ catch_by w (on_foot (walk_at w k))
      j
  kept_caught h r e = e ∙ ap (λ b. get_or chained (b + k) 0) is ∙ known.is k from (some h)

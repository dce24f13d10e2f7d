-- The slots stand for the pairs of stations that changes name, each for another, and in their order.
use Rattle.std.specs.Prelude.{◌≡◌, Bool, ◌⊎◌, ◌≢◌, length, get_or}
use Rattle.std.proofs.Math.Path.{refl, sym, ap, subst}
use Rattle.std.proofs.Common.{◌∙◌, inl, lt-ltb, le-ltb, eqb-true, ltb→lt, lt→ltb}
use Rattle.std.proofs.Math.Bool.{true, false, cond}
use Rattle.std.proofs.Math.Logic.{inr}
use mathlib.Core.List.Memᴰ
use mathlib.Core.List.Memᴰ.{head as here}
use mathlib.Core.List.Memᴰ.{tail as there}
use mathlib.Core.List.{List, [], ◌∷◌, ◌++◌, map}
use Prim.Native.Nat.{ℕ, zero, suc, ◌+◌, ◌-◌, ◌≤◌, ◌<◌}
use native.Mathlib.Omega.{arith}
use Rattle.std.proofs.Math.Dec.{T, ltb, eqb, nltb→le}
use Rattle.std.proofs.lemmas.List.{length-map}
use Rattle.lists.specs.Lists.{◌∈◌, keep, filter, concat_map, range, Distinct}
use Rattle.lists.specs.Tests.{either, eq→eqb}
use Rattle.lists.specs.Members.{none, cons_cases, append_cases, filter_in, filter_out, concat_map_in}
use Rattle.lists.specs.Members.{concat_map_out, range_in, range_out}
use Rattle.lists.specs.Pigeonhole.{Within, pigeonhole}
use Rattle.lists.specs.Places.{get_d_in}
use Rattle.timetable.specs.Words.{station_count, walks_to, walk_count, walk_at, timetable_of, is_timetable}
use Rattle.timetable.specs.Access.{stations_few}
use Rattle.timetable.specs.Check.{length_stations}
use Rattle.timetable.specs.Walks.{FromStation, walks_few, walks_rise, good_walk, walk_place_lem, walk_from, walk_rises}
use Rattle.timetable.specs.Walks.{walk_out}
use Rattle.connections.specs.Connections.{Change, Transfer, transfer, on_foot, changes_of}
use Rattle.connections.proofs.RideLaws.{changes_out}
use Rattle.store_slots.specs.Slots.{slots_most, here_slot, walk_slot, transfer_at, walks_from, slots_from, slots}

-- pairs compared by the station alighted at, then the one boarded at
abbrev pub Precedes : Transfer → Transfer → Type 0
Precedes x y = (x.alighted < y.alighted) ⊎ ((x.alighted ≡ y.alighted) × (x.boarded < y.boarded))

-- both of n stations
pub record ListedPair (n : ℕ) (x : Transfer) : Type 0 where
  pub alighted_first : 1 ≤ x.alighted
  pub alighted_last : x.alighted ≤ n
  pub boarded_first : 1 ≤ x.boarded
  pub boarded_last : x.boarded ≤ n

precedes_other : (x y : Transfer) → Precedes x y → x ≢ y
precedes_other x y (inl h) e = omega (arith, ap (λ z. z.alighted) e)
precedes_other x y (inr h) e = omega (arith, h.1, ap (λ z. z.boarded) e)

-- a list of slots in the order of what they stand for
module _ (w : List ℕ) where
  abbrev pub Climbs : List ℕ → Type 0
  Climbs [] = Unit {0}
  Climbs (s ∷ l) = ((u : ℕ) → u ∈ l → Precedes (transfer_at w s) (transfer_at w u)) × Climbs l

  climbs_append : (l m : List ℕ) → Climbs l → Climbs m
      → ((s u : ℕ) → s ∈ l → u ∈ m → Precedes (transfer_at w s) (transfer_at w u)) → Climbs (l ++ m)
  climbs_append [] m p q h = q
  climbs_append (s ∷ l) m p q h = (first, climbs_append l m p.1 q (λ t u i j. h t u (there i) j))
    where
      first : (u : ℕ) → u ∈ l ++ m → Precedes (transfer_at w s) (transfer_at w u)
      first u i = append_cases l i (p.0 u) (h s u (here refl))

  climbs_at : (l : List ℕ) → Climbs l → (i j : ℕ) → i < j → j < length l
      → Precedes (transfer_at w (get_or l i 0)) (transfer_at w (get_or l j 0))
  climbs_at [] c i j h g = absurd (omega arith)
  climbs_at (s ∷ l) c i zero h g = absurd (omega arith)
  climbs_at (s ∷ l) c zero (suc j) h g = c.0 (get_or l j 0) (get_d_in l j 0 (omega arith))
  climbs_at (s ∷ l) c (suc i) (suc j) h g = climbs_at l c.1 i j (omega arith) (omega arith)

  climbs_unique : (l : List ℕ) → Climbs l → (s u : ℕ) → s ∈ l → u ∈ l → transfer_at w s ≡ transfer_at w u → s ≡ u
  climbs_unique [] c s u m k e = none m
  climbs_unique (t ∷ l) c s u m k e = go (climbs_unique l c.1 s u)
    where
      later : (x y : ℕ) → x ≡ t → y ∈ l → transfer_at w x ≡ transfer_at w y → x ≡ y
      later x y h i f =
          absurd (precedes_other (transfer_at w t) (transfer_at w y) (c.0 y i) (ap (transfer_at w) (sym h) ∙ f))

      go : (s ∈ l → u ∈ l → transfer_at w s ≡ transfer_at w u → s ≡ u) → s ≡ u
      go ih =
          cons_cases
          m
          (λ h. cons_cases k (λ g. h ∙ sym g) (λ i. later s u h i e))
          (λ i. cons_cases k (λ g. sym (later u s g i (sym e))) (λ j. ih i j e))

  climbs_distinct : (l : List ℕ) → Climbs l → Distinct (map suc l)
  climbs_distinct [] c = tt
  climbs_distinct (s ∷ l) c = (apart, climbs_distinct l c.1)
    where
      apart : ¬ (suc s ∈ map suc l)
      apart m =
          let r = Memᴰ.of_map suc l m in
          let same : s ≡ r.0 = omega (arith, r.2) in
          precedes_other (transfer_at w s) (transfer_at w r.0) (c.0 r.0 r.1) (ap (transfer_at w) same)

  -- ---- what slots stand for
  pub here_stands : (y : ℕ) → 1 ≤ y → y ≤ 64 → transfer_at w (here_slot y) ≡ record { alighted = y; boarded = y }
  unfolding transfer_at
  here_stands y h g =
      let low : y - 1 < 64 = omega arith in
      let same : suc (y - 1) ≡ y = omega arith in
      ap
      (λ t.
      cond
      t
      (record { alighted = suc (y - 1); boarded = suc (y - 1) })
      (record { alighted = (walk_at w (y - 1 - 64)).from; boarded = (walk_at w (y - 1 - 64)).to }))
      (lt-ltb (y - 1) 64 low)
      ∙ λ i. record { alighted = same i; boarded = same i }

  pub walk_stands_lem : (k : ℕ) → transfer_at w (64 + k) ≡ record
      { alighted = (walk_at w k).from; boarded = (walk_at w k).to }
  unfolding transfer_at
  walk_stands_lem k =
      let far : 64 ≤ 64 + k = omega arith in
      let same : 64 + k - 64 ≡ k = omega arith in
      ap
      (λ t.
      cond
      t
      (record { alighted = suc (64 + k); boarded = suc (64 + k) })
      (record { alighted = (walk_at w (64 + k - 64)).from; boarded = (walk_at w (64 + k - 64)).to }))
      (le-ltb (64 + k) 64 far)
      ∙ λ i. record { alighted = (walk_at w (same i)).from; boarded = (walk_at w (same i)).to }

  walks_climb : (p : ℕ → Bool) (i k : ℕ)
      → ((a b : ℕ) → i ≤ a → a < b → b < i + k → Precedes (transfer_at w (64 + a)) (transfer_at w (64 + b)))
      → Climbs (map (λ k. 64 + k) (filter p (range i k)))
  walks_climb p i zero h = tt
  walks_climb p i (suc k) h =
      go (p i) (walks_climb p (suc i) k (λ a b f g e. h a b (omega arith) g (omega arith)))
    where
      rest : List ℕ
      rest = filter p (range (suc i) k)

      first : (u : ℕ) → u ∈ map (λ k. 64 + k) rest → Precedes (transfer_at w (64 + i)) (transfer_at w u)
      first u m =
          let r = Memᴰ.of_map (λ k. 64 + k) rest m in
          let b = range_out (suc i) k r.0 (filter_out p (range (suc i) k) r.1).0 in
          subst
          (λ u. Precedes (transfer_at w (64 + i)) (transfer_at w u))
          r.2
          (h i r.0 (omega arith) (omega (arith, b)) (omega (arith, b)))

      go : (t : Bool) → Climbs (map (λ k. 64 + k) rest) → Climbs (map (λ k. 64 + k) (keep t i rest))
      go true ih = (first, ih)
      go false ih = ih

-- ---- the slots of one station
module _ (w : List ℕ) (yes : is_timetable w ≡ true) where
  -- a slot of a walk from station y, to one that passes the test
  record OnFoot (p : ℕ → Bool) (y s : ℕ) : Type 0 where
    walk : ℕ
    is : 64 + walk ≡ s
    known : walk < walk_count w
    alighted : (transfer_at w s).alighted ≡ y
    boarded : T (p (transfer_at w s).boarded)

  module _ (y : ℕ) (low : 1 ≤ y) (high : y ≤ station_count w) where
    from_known : (k : ℕ) → k ∈ walks_from w y → FromStation w y k
    from_known k m =
        let r = range_out (walks_to w (y - 1)) (walks_to w y - walks_to w (y - 1)) k m in
        record { begun = r.0; inside = omega (arith, r) }

    from_few : (k : ℕ) → FromStation w y k → k < walk_count w
    from_few k f = omega (arith, f.inside, walks_rise w yes y (station_count w) high (omega arith))

    foot_out : (p : ℕ → Bool) (s : ℕ)
        → s ∈ map (λ k. 64 + k) (filter (λ k. p (walk_at w k).to) (walks_from w y)) → OnFoot p y s
    foot_out p s m =
        let r = Memᴰ.of_map (λ k. 64 + k) (filter (λ k. p (walk_at w k).to) (walks_from w y)) m in
        let k = r.0 in
        let f = filter_out (λ k. p (walk_at w k).to) (walks_from w y) r.1 in
        let from = from_known k f.0 in
        let stands = ap (transfer_at w) (sym r.2) ∙ walk_stands_lem w k in
        record {
          walk = k;
          is = r.2;
          known = from_few k from;
          alighted = ap (λ x. x.alighted) stands ∙ walk_from w yes y k low high from;
          boarded = subst (λ b. T (p b)) (sym (ap (λ x. x.boarded) stands)) f.1;
        }

    here_alighted : (transfer_at w (here_slot y)).alighted ≡ y
    here_alighted = ap (λ x. x.alighted) (here_stands w y low (omega (arith, stations_few w yes)))

    here_boarded : (transfer_at w (here_slot y)).boarded ≡ y
    here_boarded = ap (λ x. x.boarded) (here_stands w y low (omega (arith, stations_few w yes)))

    -- walks to stations below y, the station itself, walks to stations above
    abbrev below : List ℕ
    below = map (λ k. 64 + k) (filter (λ k. ltb (walk_at w k).to y) (walks_from w y))

    abbrev above : List ℕ
    above = map (λ k. 64 + k) (filter (λ k. ltb y (walk_at w k).to) (walks_from w y))

    below_out : (s : ℕ) → s ∈ below → OnFoot (λ b. ltb b y) y s
    below_out s m = foot_out (λ b. ltb b y) s m

    above_out : (s : ℕ) → s ∈ above → OnFoot (λ b. ltb y b) y s
    above_out s m = foot_out (λ b. ltb y b) s m

    from_cases : {G : Type 0} (s : ℕ) → s ∈ slots_from w y → (OnFoot (λ b. ltb b y) y s → G) → (s ≡ here_slot y → G)
        → (OnFoot (λ b. ltb y b) y s → G) → G
    unfolding slots_from
    from_cases s m f g h =
        append_cases
        below
        m
        (λ i. f (below_out s i))
        (λ i. cons_cases i g (λ j. h (above_out s j)))

    from_alighted : (s : ℕ) → s ∈ slots_from w y → (transfer_at w s).alighted ≡ y
    from_alighted s m =
        from_cases
        s
        m
        (λ f. f.alighted)
        (λ e. ap (λ s. (transfer_at w s).alighted) e ∙ here_alighted)
        (λ f. f.alighted)

    steps : (a b : ℕ) → walks_to w (y - 1) ≤ a → a < b → b < walks_to w (y - 1) + (walks_to w y - walks_to w (y - 1))
        → Precedes (transfer_at w (64 + a)) (transfer_at w (64 + b))
    steps a b h g e =
        let few : b < walk_count w =
        omega (arith, walks_rise w yes y (station_count w) high (omega arith)) in
        rw (walk_stands_lem w a, walk_stands_lem w b) (walk_rises w yes a b g few)

    from_climbs : Climbs w (slots_from w y)
    unfolding slots_from
    from_climbs =
        climbs_append
        w
        below
        (here_slot y ∷ above)
        (walks_climb w (λ k. ltb (walk_at w k).to y) (walks_to w (y - 1)) (walks_to w y - walks_to w (y - 1)) steps) (
          here_first,
          walks_climb w (λ k. ltb y (walk_at w k).to) (walks_to w (y - 1)) (walks_to w y - walks_to w (y - 1)) steps,
        )
        below_first
      where
        level : (s u : ℕ) → (transfer_at w s).alighted ≡ y → (transfer_at w u).alighted ≡ y
            → (transfer_at w s).boarded < (transfer_at w u).boarded → Precedes (transfer_at w s) (transfer_at w u)
        level s u a b h = inr (a ∙ sym b, h)

        here_first : (u : ℕ) → u ∈ above → Precedes (transfer_at w (here_slot y)) (transfer_at w u)
        here_first u m =
            let f = above_out u m in
            level (here_slot y) u here_alighted f.alighted
            (omega (arith, here_boarded, ltb→lt y (transfer_at w u).boarded f.boarded))

        below_first : (s u : ℕ) → s ∈ below → u ∈ here_slot y ∷ above → Precedes (transfer_at w s) (transfer_at w u)
        below_first s u m k =
            let f = below_out s m in
            let less = ltb→lt (transfer_at w s).boarded y f.boarded in
            cons_cases
            k
            (λ e.
            subst
            (λ u. Precedes (transfer_at w s) (transfer_at w u))
            (sym e)
            (level s (here_slot y) f.alighted here_alighted (omega (arith, less, here_boarded))))
            (λ i.
            let g = above_out u i in
            level s u f.alighted g.alighted
            (omega (arith, less, ltb→lt y (transfer_at w u).boarded g.boarded)))

  -- ---- all slots
  stations_climb : (i k : ℕ) → 1 ≤ i → i + k ≤ suc (station_count w) → Climbs w (concat_map (slots_from w) (range i k))
  stations_climb i zero h g = tt
  stations_climb i (suc k) h g =
      climbs_append
      w
      (slots_from w i)
      (concat_map (slots_from w) (range (suc i) k))
      (from_climbs i h (omega arith))
      (stations_climb (suc i) k (omega arith) (omega arith))
      apart
    where
      apart : (s u : ℕ) → s ∈ slots_from w i → u ∈ concat_map (slots_from w) (range (suc i) k)
          → Precedes (transfer_at w s) (transfer_at w u)
      apart s u m n =
          let r = concat_map_out (slots_from w) (range (suc i) k) n in
          let z = range_out (suc i) k r.0 r.1 in
          inl
          (omega (
            arith,
            z,
            from_alighted i h (omega arith) s m,
            from_alighted r.0 (omega (arith, z)) (omega (arith, z)) u r.2,
          ))

  pub slots_climb : Climbs w (slots w)
  unfolding slots
  slots_climb = stations_climb 1 (station_count w) (omega arith) (omega arith)

  -- a slot begins with one of the stations
  record Among (s : ℕ) : Type 0 where
    y : ℕ
    low : 1 ≤ y
    high : y ≤ station_count w
    inside : s ∈ slots_from w y

  slot_among : (s : ℕ) → s ∈ slots w → Among s
  unfolding slots
  slot_among s m =
      let r = concat_map_out (slots_from w) (range 1 (station_count w)) m in
      let z = range_out 1 (station_count w) r.0 r.1 in
      record { y = r.0; low = z.0; high = omega (arith, z.1); inside = r.2 }

  slot_in_lem : (y s : ℕ) → 1 ≤ y → y ≤ station_count w → s ∈ slots_from w y → s ∈ slots w
  unfolding slots
  slot_in_lem y s h g m = concat_map_in (slots_from w) (range_in 1 (station_count w) y h (omega arith)) m

  pub slot_small : (s : ℕ) → s ∈ slots w → s < slots_most
  slot_small s m =
      let a = slot_among s m in
      from_cases
      a.y
      a.low
      a.high
      s
      a.inside
      (λ f. omega (arith, f.is, f.known, walks_few w yes))
      (λ e. omega (arith, e, a.high, stations_few w yes))
      (λ f. omega (arith, f.is, f.known, walks_few w yes))

  pub slots_few : length (slots w) ≤ slots_most
  slots_few =
      omega (
        arith,
        length-map (slots w) suc,
        pigeonhole slots_most (map suc (slots w)) (climbs_distinct w (slots w) slots_climb) within,
      )
    where
      within : Within slots_most (map suc (slots w))
      within x m =
          let r = Memᴰ.of_map suc (slots w) m in
          let h = slot_small r.0 r.1 in
          (omega (arith, r.2), omega (arith, r.2))

  -- in the order of what they stand for
  pub slots_rise : (i j : ℕ) → i < j → j < length (slots w)
      → Precedes (transfer_at w (get_or (slots w) i 0)) (transfer_at w (get_or (slots w) j 0))
  slots_rise = climbs_at w (slots w) slots_climb

  -- so each stands for another pair
  pub slot_unique : (s u : ℕ) → s ∈ slots w → u ∈ slots w → transfer_at w s ≡ transfer_at w u → s ≡ u
  slot_unique = climbs_unique w (slots w) slots_climb

  pub slot_stations : (s : ℕ) → s ∈ slots w → ListedPair (station_count w) (transfer_at w s)
  slot_stations s m =
      let a = slot_among s m in
      from_cases
      a.y
      a.low
      a.high
      s
      a.inside
      (λ f. on_foot_lem f.walk f.is f.known)
      (λ e.
      subst
      (ListedPair (station_count w))
      (sym (ap (transfer_at w) e ∙ here_stands w a.y a.low (omega (arith, a.high, stations_few w yes))))
      (record {
        alighted_first = a.low;
        alighted_last = a.high;
        boarded_first = a.low;
        boarded_last = a.high;
      }))
      (λ f. on_foot_lem f.walk f.is f.known)
    where
      on_foot_lem : (k : ℕ) → 64 + k ≡ s → k < walk_count w → ListedPair (station_count w) (transfer_at w s)
      on_foot_lem k e h =
          let g = good_walk w yes k h in
          subst
          (ListedPair (station_count w))
          (sym (walk_stands_lem w k) ∙ ap (transfer_at w) e)
          (record {
            alighted_first = g.from_first;
            alighted_last = g.from_last;
            boarded_first = g.to_first;
            boarded_last = g.to_last;
          })

  -- the slot of a way of changing
  pub record SlotOf (way : Change) (s : ℕ) : Type 0 where
    pub listed : s ∈ slots w
    pub is : transfer_at w s ≡ transfer way

  here_inside : (y : ℕ) → here_slot y ∈ slots_from w y
  unfolding slots_from
  here_inside y =
      Memᴰ.append_right
      (map (λ k. 64 + k) (filter (λ k. ltb (walk_at w k).to y) (walks_from w y)))
      (here refl)

  pub here_listed : (y : ℕ) → 1 ≤ y → y ≤ station_count w → here_slot y ∈ slots w
  here_listed y h g = slot_in_lem y (here_slot y) h g (here_inside y)

  here_of : (way : Change) (y : ℕ) → 1 ≤ y → y ≤ station_count w → way.from ≡ y → way.to ≡ y
      → SlotOf way (here_slot y)
  here_of way y h g e f =
      record {
        listed = here_listed y h g;
        is =
            here_stands w y h (omega (arith, stations_few w yes))
            ∙ λ i. record { alighted = sym e i; boarded = sym f i };
      }

  foot_inside : (y k : ℕ) → FromStation w y k → y ≢ (walk_at w k).to → 64 + k ∈ slots_from w y
  unfolding slots_from
  foot_inside y k f other =
      let m =
      range_in (walks_to w (y - 1)) (walks_to w y - walks_to w (y - 1)) k f.begun
      (omega (arith, f.inside, f.begun)) in
      either
      (ltb (walk_at w k).to y)
      (λ t.
      Memᴰ.append_left
      (here_slot y ∷ map (λ k. 64 + k) (filter (λ k. ltb y (walk_at w k).to) (walks_from w y)))
      (Memᴰ.map (λ k. 64 + k) (filter_in (λ k. ltb (walk_at w k).to y) m t)))
      (λ t.
      let low = nltb→le (walk_at w k).to y t in
      Memᴰ.append_right
      (map (λ k. 64 + k) (filter (λ k. ltb (walk_at w k).to y) (walks_from w y)))
      (there
      (Memᴰ.map
      (λ k. 64 + k)
      (filter_in (λ k. ltb y (walk_at w k).to) m (lt→ltb y (walk_at w k).to (omega (arith, low, other)))))))

  foot_listed : (k : ℕ) → k < walk_count w → (walk_at w k).from ≢ (walk_at w k).to → 64 + k ∈ slots w
  foot_listed k h apart =
      let good = good_walk w yes k h in
      slot_in_lem
      (walk_at w k).from
      (64 + k)
      good.from_first
      good.from_last
      (foot_inside (walk_at w k).from k (walk_place_lem w yes k h) apart)

  pub walk_slot_lem : (k : ℕ) → k < walk_count w → SlotOf (on_foot (walk_at w k)) (walk_slot w k)
  unfolding walk_slot
  walk_slot_lem k h = go (eqb (walk_at w k).from (walk_at w k).to) refl
    where
      go : (t : Bool) → eqb (walk_at w k).from (walk_at w k).to ≡ t
          → SlotOf (on_foot (walk_at w k)) (cond t (here_slot (walk_at w k).from) (64 + k))
      go true e =
          let good = good_walk w yes k h in
          here_of
          (on_foot (walk_at w k))
          (walk_at w k).from
          good.from_first
          good.from_last
          refl
          (sym (eqb-true (walk_at w k).from (walk_at w k).to e))
      go false e =
          record {
            listed = foot_listed k h (λ same. subst T e (eq→eqb (walk_at w k).from (walk_at w k).to same));
            is = walk_stands_lem w k;
          }

  -- every way is at a station, or by a walk
  way_cases : {G : Type 0} (way : Change) → way ∈ changes_of (timetable_of w)
      → ((y : ℕ) → 1 ≤ y → y ≤ station_count w → way.from ≡ y → way.to ≡ y → G)
      → ((k : ℕ) → k < walk_count w → on_foot (walk_at w k) ≡ way → G) → G
  way_cases way m f g =
      elim (changes_out (timetable_of w) way m) [
        | inl r ↦
            f
            (suc r.0)
            (omega arith)
            (omega (arith, r.1.inside, length_stations w))
            (sym (ap (λ c. c.from) r.2))
            (sym (ap (λ c. c.to) r.2))
        | inr r ↦
            (let k = walk_out w r.0 r.1 in g k.0 k.1 (ap on_foot k.2 ∙ r.2))
      ]

  pub way_slot : (way : Change) → way ∈ changes_of (timetable_of w) → (s : ℕ) × SlotOf way s
  way_slot way m =
      way_cases
      way
      m
      (λ y h g e f. (here_slot y, here_of way y h g e f))
      (λ k h e. (walk_slot w k, subst (λ way. SlotOf way (walk_slot w k)) e (walk_slot_lem k h)))

  pub here_slot_lem : (way : Change) (y : ℕ) → way ∈ changes_of (timetable_of w) → way.from ≡ y → way.to ≡ y
      → SlotOf way (here_slot y)
  here_slot_lem way y m e f =
      way_cases
      way
      m
      (λ z h g a b. here_of way y (omega (arith, a, e)) (omega (arith, a, e)) e f)
      (λ k h a.
      let good = good_walk w yes k h in
      let same = ap (λ c. c.from) a in
      here_of way y (omega (arith, same, e, good.from_first)) (omega (arith, same, e, good.from_last)) e f)

-- The ways of changing that are open to one who arrives at a stop: at the station itself, and by each walk from there,
-- one after the other in the order in which the walks stand.
use Rattle.std.specs.Prelude.{◌≡◌, refl, true, ◌⊎◌, ◌↔◌, List, ℕ, ◌+◌, ◌-◌, ◌≤◌, ◌<◌}
use Rattle.std.proofs.Common.{sym, ap, subst, ◌∙◌, inl, inr, arith}
use Rattle.std.proofs.Math.Decide.{dec_lt}
use Rattle.lists.specs.Lists.{◌∈◌}
use Rattle.timetable.specs.Timetable.{Walk}
use Rattle.timetable.specs.Words.{station_count, walks_to, walk_count, walk_at, is_timetable}
use Rattle.timetable.specs.Access.{stations_few}
use Rattle.timetable.specs.Walks.{FromStation, walks_few, walks_rise, good_walk, walk_from}
use Rattle.connections.specs.Connections.{Change, on_foot}
use Rattle.store_stops.specs.Stopwise.{station, stay, ways_of, Arrival}
use Rattle.store_stops.specs.Ways.{from_few, stay_way, from_way, each_way}
use Rattle.store_stops.specs.TimelyLaws.{timely}

module _ (w : List ℕ) where
  pub record Open (j : ℕ) (way : Change) : Type 0 where
    pub listed : way ∈ ways_of w
    pub from : station w j ≡ way.from

  -- by walk k
  pub record ByWalk (k : ℕ) (way : Change) : Type 0 where
    pub is : way ≡ on_foot (walk_at w k)

  -- by a walk from station c that stands before place m
  pub record WalkTo (c m : ℕ) (way : Change) : Type 0 where
    pub k : ℕ
    pub begun : walks_to w (c - 1) ≤ k
    pub inside : k < m
    pub is : way ≡ on_foot (walk_at w k)

  module _ (c : ℕ) where
    pub walked_none : (m : ℕ) (way : Change) → m ≡ walks_to w (c - 1) → ¬ WalkTo c m way
    walked_none m way e h = omega (arith, e, h.begun, h.inside)

    -- each walk is one way more
    module _ (m : ℕ) (begun : walks_to w (c - 1) ≤ m) (way : Change) where
      more_to : WalkTo c (m + 1) way → WalkTo c m way ⊎ ByWalk m way
      more_to h =
          elim (dec_lt h.k m) [
            | yes g ↦ inl (record { k = h.k; begun = h.begun; inside = g; is = h.is })
            | no g ↦
                (let e : h.k ≡ m = omega (arith, h.inside) in
                inr (record { is = h.is ∙ ap (λ k. on_foot (walk_at w k)) e }))
          ]

      more_from : WalkTo c m way ⊎ ByWalk m way → WalkTo c (m + 1) way
      more_from (inl h) =
          record { k = h.k; begun = h.begun; inside = omega (arith, h.inside); is = h.is }
      more_from (inr h) = record { k = m; begun = begun; inside = omega arith; is = h.is }

      pub walked_more : (WalkTo c m way ⊎ ByWalk m way) ↔ WalkTo c (m + 1) way
      walked_more = (more_from, more_to)

    -- all together
    module _ (yes : is_timetable w ≡ true) (some : 1 ≤ c) (few : c ≤ station_count w) (j : ℕ) (here : station w j ≡ c)
        (way : Change) where
      from_walk : (h : WalkTo c (walks_to w c) way) → FromStation w c h.k
      from_walk h = record { begun = h.begun; inside = h.inside }

      ways_to : (way ≡ stay w c) ⊎ WalkTo c (walks_to w c) way → Open j way
      ways_to (inl h) =
          record {
            listed = subst (λ v. v ∈ ways_of w) (sym h) (stay_way w yes c some few);
            from = here ∙ sym (ap (λ (v : Change). v.from) h);
          }
      ways_to (inr h) =
          record {
            listed =
                subst (λ v. v ∈ ways_of w) (sym h.is) (from_way w yes c h.k some few (from_walk h));
            from =
                here
                ∙ sym (ap (λ (v : Change). v.from) h.is ∙ walk_from w yes c h.k some few (from_walk h));
          }

      ways_from : Open j way → (way ≡ stay w c) ⊎ WalkTo c (walks_to w c) way
      ways_from o =
          each_way
          w
          yes
          (λ v. (v ≡ stay w c) ⊎ WalkTo c (walks_to w c) v)
          c
          (inl refl)
          (λ k f. inr (record { k = k; begun = f.begun; inside = f.inside; is = refl }))
          way
          o.listed
          (sym o.from ∙ here)

      pub open_ways : ((way ≡ stay w c) ⊎ WalkTo c (walks_to w c) way) ↔ Open j way
      open_ways = (ways_to, ways_from)

  -- ---- as code goes through the walks
  module _ (yes : is_timetable w ≡ true) where
    module _ (j k : ℕ) (arrives : Arrival w j) (from : FromStation w (station w j) k) where
      pub walk_listed_lem : k < walk_count w
      walk_listed_lem =
          from_few w yes (station w j) k
          (subst (λ i. station w i ≤ station_count w) arrives.is
          ((timely w yes).next_listed arrives.i arrives.goes))
          from

      pub walk_within : k < 256
      walk_within = omega (arith, walk_listed_lem, walks_few w yes)

      pub walk_cheap : (walk : Walk) → walk ≡ walk_at w k → walk.points ≤ 1000
      walk_cheap walk is = rw is (good_walk w yes k walk_listed_lem).points_most

    -- those of station c
    module _ (c : ℕ) (few : c ≤ station_count w) where
      pub never_walked : walk_count w ≡ 0 → (way : Change) → ¬ WalkTo c (walks_to w c) way
      never_walked none way h =
          omega (arith, h.inside, walks_rise w yes c (station_count w) few (omega arith))

      pub station_most : c ≤ 64
      station_most = omega (arith, stations_few w yes)

      pub before_most : c - 1 ≤ 64
      before_most = omega (arith, stations_few w yes)

      pub walks_begin : (k : ℕ) → k ≡ walks_to w (c - 1) → walks_to w (c - 1) ≤ k
      walks_begin k e = omega arith

      pub walks_ordered : (k end : ℕ) → k ≡ walks_to w (c - 1) → end ≡ walks_to w c → k ≤ end
      walks_ordered k end e f = omega (arith, walks_rise w yes (c - 1) c (omega arith) few)

      pub walk_from_here : (j k end : ℕ) → station w j ≡ c → walks_to w (c - 1) ≤ k → end ≡ walks_to w c → k < end
          → FromStation w (station w j) k
      walk_from_here j k end here begun e h =
          subst (λ b. FromStation w b k) (sym here) (record { begun = begun; inside = omega arith })

-- The ways of changing, as the words of a timetable have them: at each station itself, and by each walk.
use Rattle.std.specs.Prelude.{◌≡◌, true, ◌⊎◌, List, ℕ, suc, ◌-◌, ◌≤◌, ◌<◌, T}
use Rattle.std.proofs.Common.{sym, ap, subst, ◌∙◌, inl, inr, arith}
use Rattle.lists.specs.Lists.{◌∈◌}
use Rattle.timetable.specs.Timetable.{Station, Walk}
use Rattle.timetable.specs.Words.{station_count, station_at, walk_count, walk_at, timetable_of, is_timetable}
use Rattle.timetable.specs.Check.{length_stations}
use Rattle.timetable.specs.Access.{station_is, spelled_valid}
use Rattle.timetable.specs.Walks.{FromStation, walks_rise, walk_place_lem, walk_from, walk_in_lem, walk_out}
use Rattle.timetable.specs.WalkTo.{Replaced, Kept, stays}
use Rattle.connections.specs.Connections.{Change, no_station, change_at, on_foot}
use Rattle.connections.proofs.RideLaws.{Own, changes_in, walks_in_lem, changes_out}
use Rattle.connections.proofs.Sound.{Priced, change_priced}
use Rattle.store_stops.specs.Stopwise.{stay, ways_of}

-- a change at station c that takes and costs what it says
abbrev staying : (c : ℕ) → Station → Change
staying c s = record { from = c; to = c; minutes = s.minutes; points = s.points }

module _ (w : List ℕ) (yes : is_timetable w ≡ true) where
  -- a walk
  pub foot_way : (k : ℕ) → k < walk_count w → on_foot (walk_at w k) ∈ ways_of w
  foot_way k h = walks_in_lem (timetable_of w) (walk_at w k) (walk_in_lem w k h)

  pub from_few : (y k : ℕ) → y ≤ station_count w → FromStation w y k → k < walk_count w
  from_few y k h f = omega (arith, f.inside, walks_rise w yes y (station_count w) h (omega arith))

  pub from_way : (y k : ℕ) → 1 ≤ y → y ≤ station_count w → FromStation w y k → on_foot (walk_at w k) ∈ ways_of w
  from_way y k h g f = foot_way k (from_few y k g f)

  -- the change at a station itself, where the station's values apply
  kept_is : (z : ℕ) → z < station_count w → Kept w (suc z) → change_at (timetable_of w).stations z ≡ stay w (suc z)
  kept_is z h kept =
      let e : z ≡ suc z - 1 = omega arith in
      ap (staying (suc z)) (station_is w z no_station h ∙ ap (station_at w) e ∙ sym kept.is)

  kept_own : (z : ℕ) → z < station_count w → Kept w (suc z) → Own (timetable_of w) z
  kept_own z h kept =
      record {
        inside = omega (arith, length_stations w);
        alone = λ v m from to.
            let k = walk_out w v m in
            let from-k = ap (λ (v : Walk). v.from) k.2 ∙ from in
            kept.none
            k.0
            (subst (λ c. FromStation w c k.0) from-k (walk_place_lem w yes k.0 k.1))
            (ap (λ (v : Walk). v.to) k.2 ∙ to);
      }

  -- and where those of its walk to itself do
  replaced_is : (c k : ℕ) → 1 ≤ c → c ≤ station_count w → Replaced w c k → on_foot (walk_at w k) ≡ stay w c
  replaced_is c k h g r =
      λ i.
      record {
        from = walk_from w yes c k h g r.from i;
        to = r.to i;
        minutes = (sym r.is i).minutes;
        points = (sym r.is i).points;
      }

  pub stay_way : (c : ℕ) → 1 ≤ c → c ≤ station_count w → stay w c ∈ ways_of w
  stay_way c h g =
      elim (stays w yes c h g) [
        | inl r ↦
            subst (λ way. way ∈ ways_of w) (replaced_is c r.0 h g r.1) (from_way c r.0 h g r.1.from)
        | inr kept ↦
            (let e : c ≡ suc (c - 1) = omega arith in
            let there : Kept w (suc (c - 1)) = subst (Kept w) e kept in
            subst (λ way. way ∈ ways_of w) (kept_is (c - 1) (omega arith) there ∙ ap (stay w) (sym e))
            (changes_in (timetable_of w) (c - 1) (kept_own (c - 1) (omega arith) there)))
      ]

  -- there are no others: what holds of a station's own change and of each of its walks holds of all ways from there
  pub each_way : (P : Change → Type 0) (y : ℕ) → P (stay w y)
      → ((k : ℕ) → FromStation w y k → P (on_foot (walk_at w k)))
      → (way : Change) → way ∈ ways_of w → way.from ≡ y → P way
  each_way P y own each way m e = go (changes_out (timetable_of w) way m)
    where
      -- no walk leads from such a station to itself
      keeps : (z : ℕ) → Own (timetable_of w) z → z < station_count w → Kept w (suc z)
      keeps z h inside =
          elim (stays w yes (suc z) (omega arith) (omega arith)) [
            | inl r ↦
                (let k = r.0 in
                let is = r.1 in
                absurd
                (h.alone
                (walk_at w k)
                (walk_in_lem w k (from_few (suc z) k (omega arith) is.from))
                (walk_from w yes (suc z) k (omega arith) (omega arith) is.from)
                is.to))
            | inr kept ↦ kept
          ]

      go : ((z : ℕ) × Own (timetable_of w) z × (change_at (timetable_of w).stations z ≡ way))
          ⊎ ((v : Walk) × (v ∈ (timetable_of w).walks) × (on_foot v ≡ way))
          → P way
      go (inl r) =
          let here : y ≡ suc r.0 = sym e ∙ ap (λ (x : Change). x.from) (sym r.2) in
          let inside : r.0 < station_count w = omega (arith, r.1.inside, length_stations w) in
          let is = kept_is r.0 inside (keeps r.0 r.1 inside) in
          subst P (ap (stay w) here ∙ sym is ∙ r.2) own
      go (inr r) =
          let k = walk_out w r.0 r.1 in
          let is = ap on_foot k.2 ∙ r.2 in
          let here = ap (λ (x : Change). x.from) is ∙ e in
          subst P is (each k.0 (subst (λ c. FromStation w c k.0) here (walk_place_lem w yes k.0 k.1)))

  -- what it takes and costs, and between which stations it is
  pub good_way : (way : Change) → way ∈ ways_of w → Priced (station_count w) way
  good_way way m =
      subst (λ n. Priced n way) (length_stations w)
      (change_priced (timetable_of w) (subst T (sym (spelled_valid w yes)) tt) way m)

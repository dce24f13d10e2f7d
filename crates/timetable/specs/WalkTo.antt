-- The walk from one station to another, where it stands among the words, and the change at a station itself. Document
-- 02, Nine: "Some stations have both an S line and a W line from the station to itself [..] such a W line goes first:
-- the S values do not apply to changes there."
use Rattle.std.specs.Prelude.{◌≡◌, Bool, true, false, cond, ◌⊎◌, List, ltb}
use Rattle.std.proofs.Math.Path.{refl}
use Rattle.std.proofs.Common.{ap, inl, inr, arith, eqb-true, eq-eqb, ltb-true, ltb-false}
use Prim.Native.Nat.{ℕ, ◌-◌, ◌≤◌, ◌<◌}
use Rattle.std.proofs.Math.Decide.{dec_lt}
use Rattle.std.proofs.Math.Dec.{eqb}
use Rattle.lists.specs.First.{first_from, Foremost, foremost}
use Rattle.lists.specs.Tests.{T_true}
use Rattle.timetable.specs.Timetable.{Station, Walk}
use Rattle.timetable.specs.Words.{station_count, station_at, walks_to, walk_count, walk_at, is_timetable}
use Rattle.timetable.specs.Walks.{FromStation, walks_rise, walk_from, walk_rises}

-- the place of the walk from station y to station x among all walks, or the one past those from y
unfoldable pub walk_to : (w : List ℕ) (y x : ℕ) → ℕ
walk_to w y x = first_from (λ k. eqb (walk_at w k).to x) (walks_to w (y - 1)) (walks_to w y - walks_to w (y - 1))

-- One: "The walk's minutes and penalty replace the station's."
abbrev pub afoot : Walk → Station
afoot v = record { minutes = v.minutes; points = v.points }

-- what a change at station c itself takes and costs: what its walk to itself says, if there is one
unfoldable pub stay_at : (w : List ℕ) (c : ℕ) → Station
stay_at w c =
    let k = walk_to w c c in
    cond (ltb k (walks_to w c)) (afoot (walk_at w k)) (station_at w (c - 1))

-- walk k is the one from station y to station x, if it is one of those from y, and no other is
pub record Sought (w : List ℕ) (y x k : ℕ) : Type 0 where
  pub begun : walks_to w (y - 1) ≤ k
  pub found : k < walks_to w y → (walk_at w k).to ≡ x
  pub only : (i : ℕ) → FromStation w y i → (walk_at w i).to ≡ x → i ≡ k

-- station c has walk k to itself, and its change says what that says
pub record Replaced (w : List ℕ) (c k : ℕ) : Type 0 where
  pub from : FromStation w c k
  pub to : (walk_at w k).to ≡ c
  pub is : stay_at w c ≡ afoot (walk_at w k)

-- station c has none, and its change says what the station says
pub record Kept (w : List ℕ) (c : ℕ) : Type 0 where
  pub none : (k : ℕ) → FromStation w c k → (walk_at w k).to ≡ c → ⊥
  pub is : stay_at w c ≡ station_at w (c - 1)

module _ (w : List ℕ) (ok : is_timetable w ≡ true) (y : ℕ) (some : 1 ≤ y) (inside : y ≤ station_count w) where
  abbrev first : ℕ
  first = walks_to w (y - 1)

  rises : first ≤ walks_to w y
  rises = walks_rise w ok (y - 1) y (omega arith) inside

  few : walks_to w y ≤ walk_count w
  few = walks_rise w ok y (station_count w) inside (omega arith)

  pub walk_sought : (x : ℕ) → Sought w y x (walk_to w y x)
  unfolding walk_to
  walk_sought x =
      record {
        begun = sought.least;
        found = found;
        only = λ i f e. elim (dec_lt i k) [ yes h ↦ absurd (not_before i f e h) | no h ↦ at_once i f e (omega arith) ];
      }
    where
      k : ℕ
      k = first_from (λ k. eqb (walk_at w k).to x) first (walks_to w y - first)

      sought : Foremost (λ k. eqb (walk_at w k).to x) first (walks_to w y - first) k
      sought = foremost (λ k. eqb (walk_at w k).to x) first (walks_to w y - first)

      found : k < walks_to w y → (walk_at w k).to ≡ x
      found h = eqb-true (walk_at w k).to x (T_true _ (sought.passes (omega (arith, rises))))

      not_before : (i : ℕ) → FromStation w y i → (walk_at w i).to ≡ x → i < k → ⊥
      not_before i f e h = sought.before i f.begun h (rw (eq-eqb (walk_at w i).to x e) tt)

      -- walks from one station rise by where they lead to
      at_once : (i : ℕ) → FromStation w y i → (walk_at w i).to ≡ x → k ≤ i → i ≡ k
      at_once i f e h =
          elim (dec_lt k i) [
            | yes l ↦ absurd (rise l (walk_rises w ok k i l (omega (arith, f.inside, few))))
            | no l ↦ omega arith
          ]
        where
          rise : k < i
              → ((walk_at w k).from < (walk_at w i).from)
              ⊎ (((walk_at w k).from ≡ (walk_at w i).from) × ((walk_at w k).to < (walk_at w i).to))
              → ⊥
          rise l (inl r) =
              let there : FromStation w y k = record { begun = sought.least; inside = omega (arith, f.inside) } in
              omega (arith, walk_from w ok y k some inside there, walk_from w ok y i some inside f)
          rise l (inr r) = omega (arith, found (omega (arith, f.inside)), r.1)

  pub stays : ((k : ℕ) × Replaced w y k) ⊎ Kept w y
  unfolding stay_at
  stays = go (ltb (walk_to w y y) (walks_to w y)) refl
    where
      sought : Sought w y y (walk_to w y y)
      sought = walk_sought y

      is : (b : Bool) → ltb (walk_to w y y) (walks_to w y) ≡ b
          → stay_at w y ≡ cond b (afoot (walk_at w (walk_to w y y))) (station_at w (y - 1))
      is b e = ap (λ b. cond b (afoot (walk_at w (walk_to w y y))) (station_at w (y - 1))) e

      go : (b : Bool) → ltb (walk_to w y y) (walks_to w y) ≡ b → ((k : ℕ) × Replaced w y k) ⊎ Kept w y
      go true e =
          let h = ltb-true (walk_to w y y) (walks_to w y) e in
          inl (
            walk_to w y y,
            record {
              from = record { begun = sought.begun; inside = h };
              to = sought.found h;
              is = is true e;
            },
          )
      go false e =
          inr
          (record {
            none = λ k f to.
                omega (arith, f.inside, sought.only k f to, ltb-false (walk_to w y y) (walks_to w y) e);
            is = is false e;
          })

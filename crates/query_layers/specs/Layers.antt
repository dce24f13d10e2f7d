-- What is left behind the rides of a path, kept in working space one ride behind the other.
use Rattle.std.specs.Prelude.{◌≡◌, List, length, get_or}
use Rattle.std.proofs.Math.Path.{ap}
use Rattle.std.proofs.Common.{◌∙◌, mul-le-mul}
use Prim.Native.Nat.{ℕ, suc, ◌+◌, ◌-◌, ◌*◌, ◌≤◌, ◌<◌}
use native.Mathlib.Omega.{arith}
use Rattle.std.proofs.Math.Nat.{mul-suc, mul-le-mul_left}
use Rattle.query_minutes.specs.Minutes.{no_points}
use Rattle.query_layers.specs.declared.Kept.{Kept}
use Rattle.query_rests.specs.Rests.{RestsAt}
use Rattle.query_rests.specs.Spans.{Spans}

-- the words of one ride: one for each minute from t to v
abbrev pub width_of : (t v : ℕ) → ℕ
width_of t v = v + 1 - t

-- where those of ride i begin, if ride low is the first
unfoldable pub place_of : (t v low i : ℕ) → ℕ
place_of t v low i = width_of t v * (i - low)

-- the words of ride i are those of z
pub record Layer (t v low i : ℕ) (work z : List ℕ) : Type 0 where
  pub at : (m : ℕ) → t ≤ m → m ≤ v → get_or work (place_of t v low i + (m - t)) no_points ≡ get_or z m no_points

-- ride j has its words from z, if it is before ride high; those of the rides behind it are as they were
pub record KeptRide (t v low high j : ℕ) (z old new : List ℕ) : Type 0 where
  pub this : j < high → Layer t v low j new z
  pub behind : (i : ℕ) → place_of t v low (j + 1) ≤ i → get_or new i no_points ≡ get_or old i no_points

module _ (w path : List ℕ) (r v t low : ℕ) where
  -- what is left behind ride i is kept
  pub record KeptRest (i : ℕ) (work : List ℕ) : Type 0 where
    pub z : List ℕ
    pub spans : Spans t v z
    pub rests : RestsAt w path r v t i z
    pub held : Layer t v low i work z

  -- so is it for the rides from one to before another
  pub record Layers (from high : ℕ) (work : List ℕ) : Type 0 where
    pub ride : (i : ℕ) → from ≤ i → i < high → KeptRest i work

-- What is left is kept for some rides, in front of ride i or with it.
pub record Keeps (w path : List ℕ) (r v t i : ℕ) (kept : Kept) (work : List ℕ) : Type 0 where
  pub begun : kept.low ≤ i
  pub few : kept.high ≤ r
  pub room : place_of t v kept.low kept.high ≤ length work
  pub layers : Layers w path r v t kept.low kept.low kept.high work

-- ---- where the words of a ride stand
module _ (t v low : ℕ) where
  pub place_next : (i : ℕ) → low ≤ i → place_of t v low (i + 1) ≡ place_of t v low i + width_of t v
  unfolding place_of
  place_next i h =
      let e : i + 1 - low ≡ suc (i - low) = omega arith in
      ap (λ k. width_of t v * k) e ∙ mul-suc (width_of t v) (i - low)

  pub place_rise : (i j : ℕ) → i ≤ j → place_of t v low i ≤ place_of t v low j
  unfolding place_of
  place_rise i j h = let later : i - low ≤ j - low = omega arith in mul-le-mul_left (width_of t v) later

  pub width_few : (i : ℕ) → v ≤ 2879 → i ≤ 64 → width_of t v * (i - low) ≤ 184320
  width_few i h g =
      mul-le-mul {n₁ = width_of t v} {m₁ = i - low} {n₂ = 2880} {m₂ = 64} (omega arith) (omega arith)

  pub place_few : (i : ℕ) → v ≤ 2879 → i ≤ 64 → place_of t v low i ≤ 184320
  unfolding place_of
  place_few i h g = width_few i h g

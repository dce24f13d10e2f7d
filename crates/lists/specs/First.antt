-- The first number that passes a test.
use Rattle.std.specs.Prelude.{◌≡◌, refl, Bool, true, false, cond, T}
use Prim.Native.Nat.{ℕ, zero, suc, ◌+◌, ◌-◌, ◌≤◌, ◌<◌}
use Rattle.std.proofs.Math.Numerals.{add-one}
use native.Mathlib.Omega.{arith}
use Rattle.std.proofs.Math.Decide.{ℕ_discrete}

-- the first of n numbers from j on that passes the test, or the number behind them
unfoldable pub first_from : (ℕ → Bool) → (j n : ℕ) → ℕ
first_from test j zero = j
first_from test j (suc n) = cond (test j) j (first_from test (suc j) n)

-- ---- one number more
module _ (test : ℕ → Bool) (j n : ℕ) where
  pub first_none : n ≤ j → first_from test j (n - j) ≡ j
  unfolding first_from
  first_none h =
      let end : n - j ≡ 0 = omega arith in
      rw end

  pub first_here : j < n → test j ≡ true → first_from test j (n - j) ≡ j
  unfolding first_from
  first_here h t =
      let more : n - j ≡ suc (n - (j + 1)) = omega arith in
      rw (more, t)

  pub first_later : j < n → test j ≡ false → first_from test j (n - j) ≡ first_from test (j + 1) (n - (j + 1))
  unfolding first_from
  first_later h t =
      let more : n - j ≡ suc (n - (j + 1)) = omega arith in
      rw (more, t, add-one j)

-- f is the first of n numbers from j on that passes, or the number behind them
pub record Foremost (test : ℕ → Bool) (j n f : ℕ) : Type 0 where
  pub least : j ≤ f
  pub most : f ≤ j + n
  pub passes : f < j + n → T (test f)
  pub before : (k : ℕ) → j ≤ k → k < f → ¬ T (test k)

pub foremost : (test : ℕ → Bool) (j n : ℕ) → Foremost test j n (first_from test j n)
unfolding first_from
foremost test j zero =
    record {
      least = omega arith;
      most = omega arith;
      passes = λ h. absurd (omega arith);
      before = λ k h g t. omega arith;
    }
foremost test j (suc n) = go (test j) refl (foremost test (suc j) n)
  where
    rest : ℕ
    rest = first_from test (suc j) n

    go : (b : Bool) → test j ≡ b → Foremost test (suc j) n rest → Foremost test j (suc n) (cond b j rest)
    go true e f =
        record {
          least = omega arith;
          most = omega arith;
          passes = λ h. rw e tt;
          before = λ k h g t. omega arith;
        }
    go false e f =
        record {
          least = omega (arith, f.least);
          most = omega (arith, f.most);
          passes = λ h. f.passes (omega arith);
          before = before;
        }
      where
        before : (k : ℕ) → j ≤ k → k < rest → ¬ T (test k)
        before k h g t =
            elim (ℕ_discrete k j) [
              | yes q ↦ rw e at (rw q at t)
              | no q ↦ f.before k (omega arith) g t
            ]

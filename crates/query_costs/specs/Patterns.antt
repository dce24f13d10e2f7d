-- Along a pattern, change by change: the changes so far, the last one first, as one goes on; and a pattern on which no
-- one is ready any more has no connection.
use Rattle.std.specs.Prelude.{◌≡◌, List, [], ◌∷◌, ◌++◌, T, length}
use Rattle.std.proofs.Math.Path.{refl, ap, subst, sym}
use Rattle.std.proofs.Common.{◌∙◌, inl, add-one, take-suc}
use Prim.Native.Nat.{ℕ, zero, suc, ◌+◌, ◌-◌, ◌*◌, ◌≤◌, ◌<◌}
use native.Mathlib.Omega.{arith}
use Rattle.std.proofs.Math.ListN.{get_or, take}
use Rattle.std.proofs.Math.Seq.{append_snoc}
use Rattle.timetable.specs.Timetable.{Timetable, valid}
use Rattle.connections.specs.Connections.{Transfer, Net, net}
use Rattle.optimality.specs.Along.{Along, read_back}
use Rattle.optimality.specs.Bounds.{reach_most}
use Rattle.query_costs.specs.Lowered.{Lowered}
use Rattle.query_costs.specs.Readies.{Ready, value_here, value_some, leaves}

-- change j that a path names, counted from 0
abbrev pub change_in : (path : List ℕ) (j : ℕ) → Transfer
change_in path j = record { alighted = get_or path (2 * j) 0; boarded = get_or path (2 * j + 1) 0 }

-- the first j changes that a path names, the last one first
unfoldable pub changes_to : (path : List ℕ) (j : ℕ) → List Transfer
changes_to path zero = []
changes_to path (suc j) = change_in path j ∷ changes_to path j

module _ (path : List ℕ) where
  pub changes_none : changes_to path 0 ≡ []
  unfolding changes_to
  changes_none = refl

  pub changes_more : (j : ℕ) → changes_to path (j + 1) ≡ change_in path j ∷ changes_to path j
  unfolding changes_to
  changes_more j = ap (changes_to path) (add-one j)

  -- they are the stations that it names
  pub changes_read : (j : ℕ) (q : List ℕ) → 2 * j ≤ length path → read_back (changes_to path j) q ≡ take (2 * j) path ++
      q
  unfolding changes_to
  changes_read zero q h = refl
  changes_read (suc j) q h =
      let two : 2 * suc j ≡ suc (suc (2 * j)) = omega arith in
      let one : 2 * j + 1 ≡ suc (2 * j) = omega arith in
      let y = get_or path (2 * j) 0 in
      let x = get_or path (2 * j + 1) 0 in
      changes_read j (y ∷ x ∷ q) (omega arith)
      ∙ sym (append_snoc (take (2 * j) path) y (x ∷ q))
      ∙ ap (λ l. l ++ (x ∷ q)) (sym (take-suc path (2 * j) 0 (omega arith)))
      ∙ sym (append_snoc (take (suc (2 * j)) path) x q)
      ∙ ap (λ k. (take (suc (2 * j)) path ++ (get_or path k 0 ∷ [])) ++ q) one
      ∙ ap (λ l. l ++ q) (sym (take-suc path (suc (2 * j)) 0 (omega arith)))
      ∙ ap (λ k. take k path ++ q) (sym two)

-- no one is ready along these changes
pub record Nowhere (n : Net) (a t : ℕ) (rev : List Transfer) : Type 0 where
  pub none : (x u p : ℕ) → u < 2880 → ¬ Along n a t rev x u p

module _ (tt : Timetable) (ok : T (valid tt)) (a t : ℕ) where
  abbrev n : Net
  n = net tt

  pub nowhere : (rev : List Transfer) (x : ℕ) (p : List ℕ) → Ready n a t rev x 2880 p → Nowhere n a t rev
  nowhere rev x p is = record { none = none }
    where
      none : (y u c : ℕ) → u < 2880 → ¬ Along n a t rev y u c
      none y u c h g =
          let low = is.least.below y u c h g in
          let few = reach_most tt ok a t y u c (record { changed = rev; along = g }) in
          let here = value_some x p y u (omega (arith, low, few)) in
          omega (arith, low, few, value_here x p y u here, is.none u h)

  nowhere_next : (y : Transfer) (rev : List Transfer) → Nowhere n a t rev → Nowhere n a t (y ∷ rev)
  nowhere_next y rev z =
      record {
        none = λ x u p h g.
            (let r = g.ride in z.none r.from r.depart g.paid (leaves tt ok a t r g.listed) g.below);
      }

  nowhere_on : (path : List ℕ) (j k i : ℕ) → i ≡ k + j → Nowhere n a t (changes_to path j)
      → Nowhere n a t (changes_to path i)
  unfolding changes_to
  nowhere_on path j zero i e z =
      let same : j ≡ i = omega arith in
      subst (λ i. Nowhere n a t (changes_to path i)) same z
  nowhere_on path j (suc k) zero e z = absurd (omega arith)
  nowhere_on path j (suc k) (suc i) e z =
      nowhere_next (change_in path i) (changes_to path i) (nowhere_on path j k i (omega arith) z)

  -- so there is nothing to note
  pub nowhere_lowered : (path : List ℕ) (j k : ℕ) → j ≤ k → Nowhere n a t (changes_to path j) → (b : ℕ) (old : List ℕ)
      → Lowered n a t (changes_to path k) b old old
  nowhere_lowered path j k h z b old =
      record {
        long = refl;
        lower = λ m. omega arith;
        stems = λ m. inl refl;
        below = λ m p g. (let r = g.ride in
            absurd (on.none r.from r.depart g.paid (leaves tt ok a t r g.listed) g.below));
      }
    where
      on : Nowhere n a t (changes_to path k)
      on = nowhere_on path j (k - j) k (omega arith) z

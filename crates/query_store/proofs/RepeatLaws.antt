-- Two nodes with the same stations, and arcs that repeat.
use mathlib.Core.Path.{◌≡◌, sym, ap, ◌∙◌}
use mathlib.Core.Bool.{Bool, true, false, not}
use mathlib.Core.Logic.{inl, inr}
use mathlib.Core.List.{List, [], ◌∷◌, ◌++◌}
use Prim.Native.Nat.{ℕ, ◌-◌, ◌≤◌, ◌<◌}
use native.Mathlib.Omega.{arith}
use borrow.Author.Tests.{not-false}
use Rattle.query_store.specs.Entries.{node_count, arc_count, node_alighted, node_boarded, node_parent, arc_target}
use Rattle.query_store.specs.Entries.{arc_before}
use Rattle.query_store.specs.Paths.{node_path, arc_path_lem}
use Rattle.query_store.specs.Made.{Made, node_falls, node_path_lem}
use Rattle.query_store.specs.Repeats.{Repeats, Idle}

-- if nodes u and v have the same stations, so have the two that were begun with
pub record Alike (s : List ℕ) (first second u v : ℕ) : Type 0 where
  pub so : node_path s u ≡ node_path s v → node_path s first ≡ node_path s second

pub alike_begin : (s : List ℕ) (first second : ℕ) → Alike s first second first second
alike_begin s first second = record { so = λ e. e }

pub alike_more : (s : List ℕ) (first second u v p q : ℕ) → Made s → Alike s first second u v → (u ≡ 0 → ⊥) → (v ≡ 0 → ⊥)
    → u ≤ node_count s
    → v ≤ node_count s
    → (a b c d : ℕ) → a ≡ node_alighted s u → b ≡ node_alighted s v → a ≡ b
    → c ≡ node_boarded s u → d ≡ node_boarded s v → c ≡ d
    → p ≡ node_parent s u
    → q ≡ node_parent s v
    → Alike s first second p q
alike_more s first second u v p q m so_far some-u some-v known-u known-v a b c d ea eb e ec ed f ep eq =
    record {
      so =
          λ same.
          so_far.so
          (node_path_lem s u m some-u known-u
          ∙ (λ i. node_path s (sym ep i) ++ (sym ea i ∷ sym ec i ∷ []))
          ∙ (λ i. same i ++ (e i ∷ f i ∷ []))
          ∙ (λ i. node_path s (eq i) ++ (eb i ∷ ed i ∷ []))
          ∙ sym (node_path_lem s v m some-v known-v));
    }

pub alike_done : (s : List ℕ) (first second u v : ℕ) → Alike s first second u v → u ≡ v
    → node_path s first ≡ node_path s second
alike_done s first second u v so_far e = so_far.so (ap (node_path s) e)

-- a parent is below its node, and one of the nodes
pub parent_less : (s : List ℕ) (u p : ℕ) → Made s → (u ≡ 0 → ⊥) → u ≤ node_count s → p ≡ node_parent s u → p < u
parent_less s u p m some known e = omega (arith, node_falls s u m some known)

pub parent_node : (s : List ℕ) (u p : ℕ) → Made s → (u ≡ 0 → ⊥) → u ≤ node_count s → p ≡ node_parent s u
    → p ≤ node_count s
parent_node s u p m some known e = omega (arith, parent_less s u p m some known e)

-- ---- arcs
module _ (s : List ℕ) (k : ℕ) (m : Made s) (inside : k < arc_count s) (some : k ≡ 0 → ⊥) where
  pub last_inside : k - 1 < arc_count s
  last_inside = omega arith

  pub repeat : (x y u v : ℕ) → x ≡ arc_target s (k - 1) → y ≡ arc_target s k → x ≡ y → u ≡ arc_before s k
      → v ≡ arc_before s (k - 1)
      → node_path s u ≡ node_path s v
      → Repeats s k
  repeat x y u v ex ey e eu ev same =
      record {
        other = k - 1;
        before = omega (arith, some);
        same =
            arc_path_lem s k inside
            ∙ (λ i. node_path s (sym eu i) ++ ((sym ey ∙ sym e ∙ ex) i ∷ []))
            ∙ (λ i. same i ++ (arc_target s (k - 1) ∷ []))
            ∙ (λ i. node_path s (ev i) ++ (arc_target s (k - 1) ∷ []))
            ∙ sym (arc_path_lem s (k - 1) last_inside);
      }

pub before_node : (s : List ℕ) (k u : ℕ) → Made s → k < arc_count s → u ≡ arc_before s k → u ≤ node_count s
before_node s k u m inside e = omega (arith, m.known k inside)

pub idle_elsewhere : (s : List ℕ) (b k t : ℕ) → t ≡ arc_target s k → (t ≡ b → ⊥) → Idle s b k
unfolding Idle
idle_elsewhere s b k t e other = inl (λ f. other (e ∙ f))

pub idle_repeats : (s : List ℕ) (b k : ℕ) (r : Bool) → (r ≡ true → Repeats s k) → not r ≡ false → Idle s b k
unfolding Idle
idle_repeats s b k r so e = inr (so (not-false r e))

pub leads_there : (s : List ℕ) (b k t : ℕ) → t ≡ arc_target s k → t ≡ b → arc_target s k ≡ b
leads_there s b k t e f = sym e ∙ f

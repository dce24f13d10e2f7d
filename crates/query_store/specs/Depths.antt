-- How many changes the sequence of each node has, noted word by word in working space.
use Rattle.std.specs.Prelude.{◌≡◌, List, [], ◌∷◌, ℕ, ◌+◌, ◌*◌, ◌≤◌, ◌<◌, leb, length, get_or, set}
use Rattle.std.proofs.Common.{ap, subst, ◌∙◌, arith, leb→le, length-append, get_or-set_same, get_or-set_other}
use Rattle.std.proofs.Math.Dec.{nleb→lt}
use Rattle.lists.specs.Tests.{either}
use Rattle.query_store.specs.Entries.{node_count, node_alighted, node_boarded, node_parent}
use Rattle.query_store.specs.Paths.{node_path, root_path, next_path}

-- word u of w is right for the root and each node up to v: a change has two stations
pub record Depths (s w : List ℕ) (v : ℕ) : Type 0 where
  pub deep : (u : ℕ) → u ≤ v → 2 * get_or w u 0 ≡ length (node_path s u)
  pub few : (u : ℕ) → u ≤ v → get_or w u 0 ≤ u

-- the root
pub depths_start : (s w : List ℕ) → 0 < length w → Depths s (set w 0 0) 0
depths_start s w h = record { deep = deep; few = few }
  where
    none : (u : ℕ) → u ≤ 0 → get_or (set w 0 0) u 0 ≡ 0
    none u g = ap (λ i. get_or (set w 0 0) i 0) (omega arith) ∙ get_or-set_same w 0 0 0 h

    deep : (u : ℕ) → u ≤ 0 → 2 * get_or (set w 0 0) u 0 ≡ length (node_path s u)
    deep u g =
        let e : u ≡ 0 = omega arith in
        omega (arith, none u g, ap length (root_path s), ap (λ i. length (node_path s i)) e)

    few : (u : ℕ) → u ≤ 0 → get_or (set w 0 0) u 0 ≤ u
    few u g = omega (arith, none u g)

-- node v + 1 is one deeper than its parent
module _ (s w : List ℕ) (v p : ℕ) (d : Depths s w v) (h : v < node_count s) (g : v + 1 < length w)
    (is-p : p ≡ node_parent s (v + 1)) (below : p ≤ v) where
  abbrev noted : List ℕ
  noted = set w (v + 1) (get_or w p 0 + 1)

  here : get_or noted (v + 1) 0 ≡ get_or w p 0 + 1
  here = get_or-set_same w (v + 1) (get_or w p 0 + 1) 0 g

  one_more : length (node_path s (v + 1)) ≡ length (node_path s p) + 2
  one_more =
      let e = next_path s v h (omega arith) in
      let f = ap (λ i. length (node_path s i)) is-p in
      let l = length-append (node_path s (node_parent s (v + 1)))
      (node_alighted s (v + 1) ∷ node_boarded s (v + 1) ∷ []) in
      omega (arith, ap length e)

  earlier : (u : ℕ) → u ≤ v → get_or noted u 0 ≡ get_or w u 0
  earlier u k = get_or-set_other w (v + 1) u (get_or w p 0 + 1) 0 (λ e. omega arith)

  last : (u : ℕ) → u ≤ v + 1 → v < u → v + 1 ≡ u
  last u k l = omega arith

  pub depths_more : Depths s noted (v + 1)
  depths_more = record { deep = deep; few = few }
    where
      deep : (u : ℕ) → u ≤ v + 1 → 2 * get_or noted u 0 ≡ length (node_path s u)
      deep u k =
          either
          (leb u v)
          (λ t. (let l = leb→le u v t in ap (λ x. 2 * x) (earlier u l) ∙ d.deep u l))
          (λ t.
          subst
          (λ i. 2 * get_or noted i 0 ≡ length (node_path s i))
          (last u k (nleb→lt u v t))
          (omega (arith, here, one_more, d.deep p below)))

      few : (u : ℕ) → u ≤ v + 1 → get_or noted u 0 ≤ u
      few u k =
          either
          (leb u v)
          (λ t. (let l = leb→le u v t in omega (arith, earlier u l, d.few u l)))
          (λ t.
          subst
          (λ i. get_or noted i 0 ≤ i)
          (last u k (nleb→lt u v t))
          (omega (arith, here, d.few p below)))

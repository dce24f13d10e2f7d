-- The prefix nodes of a set of sequences: the beginnings, shorter ones first. So what a node is without its last
-- change stands before it, and a parent's number is below the node's own.
use Rattle.std.specs.Prelude.{◌≡◌, refl, ◌≢◌, List, [], ◌∷◌, ◌++◌, map, ℕ, ◌≤◌, ◌<◌, length}
use Rattle.std.proofs.Math.Path.{sym, ap}
use Rattle.std.proofs.Common.{subst, ◌∙◌, inl, inr, arith}
use mathlib.Core.List.Memᴰ
use mathlib.Core.List.Memᴰ.{head as here}
use mathlib.Core.List.Memᴰ.{tail as there}
use Rattle.lists.specs.Lists.{◌∈◌, concat_map, sort, Rising, tail}
use Rattle.lists.specs.Members.{cons_cases, append_cases, concat_map_in, concat_map_out, map_inside}
use Rattle.lists.specs.Order.{before_cases, before_same}
use Rattle.lists.specs.Sorting.{Inside, rising_unique, sort_in, sort_out, sort_rising}
use Rattle.stores.specs.Words.{beginnings, front, keyed, nodes}
use Rattle.stores.specs.Sequences.{Odd, Even, before_shorter, begin_nonempty, begin_even, begin_front}
use Rattle.stores.specs.Sequences.{begin_closed}

-- in order of length
abbrev pub Sized : List (List ℕ) → Type 0
Sized [] = Unit {0}
Sized (q ∷ l) = ((x : List ℕ) → x ∈ l → length q ≤ length x) × Sized l

sized_after : (pre : List (List ℕ)) (q : List ℕ) (suf : List (List ℕ)) → Sized (pre ++ q ∷ suf)
    → (x : List ℕ) → x ∈ suf → length q ≤ length x
sized_after [] q suf s = s.0
sized_after (p ∷ pre) q suf s = sized_after pre q suf s.1

-- sorted by length and sequence, the sequences are in order of length
sized_rising : (k : List (List ℕ)) → Rising k → ((z : List ℕ) → z ∈ k → z ≡ keyed (tail z)) → Sized (map tail k)
sized_rising [] r h = tt
sized_rising (z ∷ k) r h = (first, sized_rising k r.1 (λ y m. h y (there m)))
  where
    first : (x : List ℕ) → x ∈ map tail k → length (tail z) ≤ length x
    first x m =
        let y = Memᴰ.of_map tail k m in
        let t = before_same (h z (here refl)) (h y.0 (there y.1)) (r.0 y.0 y.1) in
        elim (before_cases (length (tail z)) (length (tail y.0)) (tail z) (tail y.0) t) [
          | inl g ↦ omega (arith, ap length y.2)
          | inr g ↦ omega (arith, ap length y.2)
        ]

-- what reading asks of a list of nodes
pub record Nodes (ns : List (List ℕ)) : Type 0 where
  pub nonempty : (q : List ℕ) → q ∈ ns → q ≢ []
  pub even : (q : List ℕ) → q ∈ ns → Even q
  pub closed : (q : List ℕ) → q ∈ ns → front (front q) ∈ [] ∷ ns
  pub sized : Sized ns

module _ (ns : List (List ℕ)) (n : Nodes ns) (pre : List (List ℕ)) (q : List ℕ) (suf : List (List ℕ)) where
  pub node_at : pre ++ q ∷ suf ≡ ns → q ∈ ns
  node_at e = subst (λ l. q ∈ l) e (Memᴰ.append_right pre (here refl))

  -- a node's parent stands before it, since it is shorter
  pub front_before : pre ++ q ∷ suf ≡ ns → front (front q) ∈ [] ∷ pre
  front_before e = cons_cases (n.closed q (node_at e)) here listed
    where
      less : length (front (front q)) < length q
      less = before_shorter q (n.nonempty q (node_at e))

      not_behind : front (front q) ∈ q ∷ suf → front (front q) ∈ [] ∷ pre
      not_behind m =
          cons_cases
          m
          (λ h. absurd (omega (arith, ap length h, less)))
          (λ h. absurd (omega (arith, less, sized_after pre q suf (rw e n.sized) (front (front q)) h)))

      listed : front (front q) ∈ ns → front (front q) ∈ [] ∷ pre
      listed m = append_cases pre (rw (← e) at m) there not_behind

module _ (ps : List (List ℕ)) where
  abbrev keys : List (List ℕ)
  keys = map keyed (concat_map beginnings ps)

  key_out : (z : List ℕ) → z ∈ sort keys → (q : List ℕ) × (q ∈ concat_map beginnings ps) × (keyed q ≡ z)
  key_out z m = Memᴰ.of_map keyed (concat_map beginnings ps) (sort_out keys m)

  pub node_out : (q : List ℕ) → q ∈ nodes ps → q ∈ concat_map beginnings ps
  unfolding nodes
  node_out q m =
      let r = Memᴰ.of_map tail (sort keys) m in
      let k = key_out r.0 r.1 in
      Memᴰ.cast (sym r.2 ∙ ap tail (sym k.2)) k.1

  pub node_in : (q : List ℕ) → q ∈ concat_map beginnings ps → q ∈ nodes ps
  unfolding nodes
  node_in q m = Memᴰ.map tail (sort_in (Memᴰ.map keyed m))

  -- a beginning of a stored sequence, or nothing, is a node or the root
  known : (q p : List ℕ) → p ∈ ps → q ∈ [] ∷ beginnings p → q ∈ [] ∷ nodes ps
  known q p m h = cons_cases h here (λ k. there (node_in q (concat_map_in beginnings m k)))

  -- the predecessor of a stored sequence
  pub front_known : (p : List ℕ) → p ∈ ps → Odd p → front p ∈ [] ∷ nodes ps
  front_known p m o = known (front p) p m (begin_front p o)

  nodes_sized : Sized (nodes ps)
  unfolding nodes
  nodes_sized =
      sized_rising
      (sort keys)
      (sort_rising keys)
      (λ z m. let k = key_out z m in sym k.2 ∙ ap (λ v. keyed (tail v)) k.2)

  pub nodes_made_lem : Nodes (nodes ps)
  nodes_made_lem = record { nonempty = nonempty; even = even; closed = closed; sized = nodes_sized }
    where
      nonempty : (q : List ℕ) → q ∈ nodes ps → q ≢ []
      nonempty q m = let r = concat_map_out beginnings ps (node_out q m) in begin_nonempty q r.0 r.2

      even : (q : List ℕ) → q ∈ nodes ps → Even q
      even q m = let r = concat_map_out beginnings ps (node_out q m) in begin_even q r.0 r.2

      closed : (q : List ℕ) → q ∈ nodes ps → front (front q) ∈ [] ∷ nodes ps
      closed q m =
          let r = concat_map_out beginnings ps (node_out q m) in
          known (front (front q)) r.0 r.1 (begin_closed q r.0 r.2)

  tail_keyed : (l : List (List ℕ)) → map tail (map keyed l) ≡ l
  tail_keyed [] = refl
  tail_keyed (q ∷ l) = ap (λ m. q ∷ m) (tail_keyed l)

  -- How a program shows that it found the nodes: they rise by length and sequence, and are the beginnings.
  pub nodes_unique : (ns : List (List ℕ)) → Rising (map keyed ns) → Inside ns (concat_map beginnings ps)
      → Inside (concat_map beginnings ps) ns → ns ≡ nodes ps
  unfolding nodes
  nodes_unique ns r f g =
      sym (tail_keyed ns) ∙ ap (map tail) (rising_unique (map keyed ns) (sort keys) r (sort_rising keys) to from)
    where
      to : Inside (map keyed ns) (sort keys)
      to z m = sort_in (map_inside keyed ns (concat_map beginnings ps) f z m)

      from : Inside (sort keys) (map keyed ns)
      from z m = map_inside keyed (concat_map beginnings ps) ns g z (sort_out keys m)

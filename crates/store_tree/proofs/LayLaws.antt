-- The words of a store are written node by node, target by target and station by station.
use mathlib.Core.Path.{◌≡◌, sym, ap, subst, ◌∙◌}
use mathlib.Core.Bool.{true}
use mathlib.Core.List.{List, [], ◌∷◌, ◌++◌}
use Prim.Native.Nat.{ℕ, suc, ◌+◌, ◌-◌, ◌*◌, ◌≤◌, ◌<◌}
use native.Mathlib.Nat.{zero-add, sub-zero}
use native.Mathlib.Omega.{arith}
use lib.ListN.{length, get_or}
use Rattle.words.specs.Put.{put, put_none}
use Rattle.lists.specs.Lists.{◌∈◌}
use Rattle.timetable.specs.Words.{is_timetable}
use Rattle.timetable.specs.Access.{stations_few}
use Rattle.store_slots.specs.Slots.{transfer_at, slots}
use Rattle.store_slots.specs.SlotLaws.{slot_small, slot_stations}
use Rattle.store_tree.specs.Tree.{slot_in, parent_in, arcs_in}
use Rattle.store_tree.specs.Laid.{entry_at, entries_to, arc_words, hits_to, node_hits, total, hits_of}
use Rattle.store_tree.specs.LaidSteps.{entries_more, entries_none, length_entries, arc_yes, arc_no, hits_more}
use Rattle.store_tree.specs.LaidSteps.{nodes_more, nodes_none, total_more, stations_more, stations_none}
use Rattle.store_slots.specs.Writing.{
  Writing,
  writing_first,
  writing_room,
  writing_more,
  writing_done,
  writing_end,
}

-- ---- the nodes
pub nodes_first : (t w old : List ℕ) (n : ℕ) → 2 + 3 * n ≤ length old
    → Writing (entries_to t w 1 (suc n)) (entries_to t w 1 (suc n)) old old 2 2
nodes_first t w old n h = writing_first (entries_to t w 1 (suc n)) old 2 (omega (arith, length_entries t w n))

module _
    (t w old out : List ℕ)
    (n v : ℕ)
    (k : Writing (entries_to t w 1 (suc n)) (entries_to t w v (suc n)) old out 2 (3 * v - 1))
  where
    module _ (h : v < n + 1) where
      pub node_room : 3 * v - 1 + 3 ≤ length out
      node_room =
          writing_room
          (entries_to t w 1 (suc n))
          (entries_to t w v (suc n))
          (entry_at t w v)
          (entries_to t w (v + 1) (suc n))
          old
          out
          2
          (3 * v - 1)
          k
          (entries_more t w v (suc n) (omega arith))

      pub node_more : 1 ≤ v → (a b p s : ℕ) (out' : List ℕ) → s ≡ slot_in (get_or w v 0) → a ≡
          (transfer_at t s).alighted
          → b ≡ (transfer_at t s).boarded → p ≡ parent_in (get_or w v 0)
          → out' ≡ put (3 * v - 1) (a ∷ b ∷ p ∷ []) out
          → Writing (entries_to t w 1 (suc n)) (entries_to t w (v + 1) (suc n)) old out' 2 (3 * (v + 1) - 1)
      node_more some a b p s out' is-s is-a is_b is-p e =
          let first = is-a ∙ ap (λ s. (transfer_at t s).alighted) is-s in
          let second = is_b ∙ ap (λ s. (transfer_at t s).boarded) is-s in
          writing_more
          (entries_to t w 1 (suc n))
          (entries_to t w v (suc n))
          (entry_at t w v)
          (entries_to t w (v + 1) (suc n))
          old
          out
          2
          (3 * v - 1)
          k
          (entries_more t w v (suc n) (omega arith))
          out'
          (3 * (v + 1) - 1)
          (e ∙ (λ i. put (3 * v - 1) (first i ∷ second i ∷ is-p i ∷ []) out))
          (omega arith)

    pub nodes_done : n + 1 ≤ v → out ≡ put 2 (entries_to t w 1 (suc n)) old
    nodes_done h =
        writing_done
        (entries_to t w 1 (suc n))
        (entries_to t w v (suc n))
        old
        out
        2
        (3 * v - 1)
        k
        (entries_none t w v (suc n) (omega arith))

-- the slot of a node is one of the timetable's
module _ (t w : List ℕ) (n v s : ℕ) (spelled : is_timetable t ≡ true)
    (listed : (v : ℕ) → v ≤ n → slot_in (get_or w v 0) ∈ slots t) (h : v < n + 1) (is : s ≡ slot_in (get_or w v 0))
  where
    in_slots : s ∈ slots t
    in_slots = subst (λ s. s ∈ slots t) (sym is) (listed v (omega arith))

    pub node_small : s < 320
    node_small = slot_small t spelled s in_slots

    pub alighted_small : (a : ℕ) → a ≡ (transfer_at t s).alighted → a < 65536
    alighted_small a e =
        omega (arith, (slot_stations t spelled s in_slots).alighted_last, stations_few t spelled)

    pub boarded_small : (b : ℕ) → b ≡ (transfer_at t s).boarded → b < 65536
    boarded_small b e =
        omega (arith, (slot_stations t spelled s in_slots).boarded_last, stations_few t spelled)

-- ---- one target
module _ (target b v at : ℕ) (old : List ℕ) where
  module _ (e : target ≡ b) where
    pub arc_room : at + length (arc_words target b v) ≤ length old → at + 2 ≤ length old
    arc_room h = omega (arith, ap length (arc_yes target b v e))

    pub arc_written : (new : List ℕ) → new ≡ put at (b ∷ v ∷ []) old → new ≡ put at (arc_words target b v) old
    arc_written new h = h ∙ ap (λ l. put at l old) (sym (arc_yes target b v e))

    pub arc_end : at + 2 ≡ at + length (arc_words target b v)
    arc_end = omega (arith, ap length (arc_yes target b v e))

  module _ (e : target ≡ b → ⊥) where
    pub arc_none : old ≡ put at (arc_words target b v) old
    arc_none = sym (ap (λ l. put at l old) (arc_no target b v e) ∙ put_none at old)

    pub none_end : at ≡ at + length (arc_words target b v)
    none_end = omega (arith, ap length (arc_no target b v e))

pub hit_room : (ts old out : List ℕ) (b v first i end at here : ℕ)
    → Writing (hits_to ts b v first end) (hits_to ts b v i end) old out at here → i < end
    → here + length (arc_words (get_or ts i 0) b v) ≤ length out
hit_room ts old out b v first i end at here k h =
    writing_room
    (hits_to ts b v first end)
    (hits_to ts b v i end)
    (arc_words (get_or ts i 0) b v)
    (hits_to ts b v (i + 1) end)
    old
    out
    at
    here
    k
    (hits_more ts b v i end h)

-- ---- one station
pub to_first : (w ts old : List ℕ) (b n at : ℕ) → at + length (node_hits w ts b 0 0 (suc n)) ≤ length old
    → Writing (node_hits w ts b 0 0 (suc n)) (node_hits w ts b 0 0 (suc n - 0)) old old at at
to_first w ts old b n at h =
    subst
    (λ k. Writing (node_hits w ts b 0 0 (suc n)) (node_hits w ts b 0 0 k) old old at at)
    (sym (sub-zero (suc n)))
    (writing_first (node_hits w ts b 0 0 (suc n)) old at h)

pub total_first : (w : List ℕ) (n : ℕ) → 0 + total w 0 (suc n - 0) ≡ total w 0 (suc n)
total_first w n = zero-add (total w 0 (suc n - 0)) ∙ ap (total w 0) (sub-zero (suc n))

module _ (w : List ℕ) (n v i c : ℕ) (so_far : i + total w v (suc n - v) ≡ total w 0 (suc n)) (h : v < n + 1)
    (is : c ≡ arcs_in (get_or w v 0)) where
  pub targets_inside : (ts : List ℕ) → total w 0 (suc n) ≤ 16384 → length ts ≡ 16384 → i + c ≤ length ts
  targets_inside ts few long = omega (arith, so_far, is, total_more w v (suc n) (omega arith))

  pub total_next : i + c + total w (v + 1) (suc n - (v + 1)) ≡ total w 0 (suc n)
  total_next = omega (arith, so_far, is, total_more w v (suc n) (omega arith))

module _
    (w ts old out : List ℕ)
    (b n i v at here : ℕ)
    (k : Writing (node_hits w ts b 0 0 (suc n)) (node_hits w ts b i v (suc n - v)) old out at here)
  where
    module _ (h : v < n + 1) (c : ℕ) (is : c ≡ arcs_in (get_or w v 0)) where
      next_node : node_hits w ts b i v (suc n - v)
          ≡ hits_to ts b v i (i + c) ++ node_hits w ts b (i + c) (v + 1) (suc n - (v + 1))
      next_node =
          nodes_more w ts b i v (suc n) (omega arith)
          ∙ ap (λ c. hits_to ts b v i (i + c) ++ node_hits w ts b (i + c) (v + 1) (suc n - (v + 1))) (sym is)

      pub to_room : here + length (hits_to ts b v i (i + c)) ≤ length out
      to_room =
          writing_room
          (node_hits w ts b 0 0 (suc n))
          (node_hits w ts b i v (suc n - v))
          (hits_to ts b v i (i + c))
          (node_hits w ts b (i + c) (v + 1) (suc n - (v + 1)))
          old
          out
          at
          here
          k
          next_node

      pub to_more : (out' : List ℕ) (here' : ℕ) → out' ≡ put here (hits_to ts b v i (i + c)) out
          → here' ≡ here + length (hits_to ts b v i (i + c))
          → Writing (node_hits w ts b 0 0 (suc n)) (node_hits w ts b (i + c) (v + 1) (suc n - (v + 1))) old out' at
          here'
      to_more =
          writing_more
          (node_hits w ts b 0 0 (suc n))
          (node_hits w ts b i v (suc n - v))
          (hits_to ts b v i (i + c))
          (node_hits w ts b (i + c) (v + 1) (suc n - (v + 1)))
          old
          out
          at
          here
          k
          next_node

    module _ (h : n + 1 ≤ v) where
      over : node_hits w ts b i v (suc n - v) ≡ []
      over = nodes_none w ts b i v (suc n) (omega arith)

      pub to_done : out ≡ put at (node_hits w ts b 0 0 (suc n)) old
      to_done =
          writing_done (node_hits w ts b 0 0 (suc n)) (node_hits w ts b i v (suc n - v)) old out at here k over

      pub to_end : here ≡ at + length (node_hits w ts b 0 0 (suc n))
      to_end = writing_end (node_hits w ts b 0 0 (suc n)) (node_hits w ts b i v (suc n - v)) old out at here k over

-- ---- all stations
module _
    (w ts old out : List ℕ)
    (n b stations at here : ℕ)
    (k : Writing (hits_of w ts n 1 (suc stations)) (hits_of w ts n b (suc stations)) old out at here)
  where
    module _ (h : b < stations + 1) where
      pub station_room : here + length (node_hits w ts b 0 0 (suc n)) ≤ length out
      station_room =
          writing_room
          (hits_of w ts n 1 (suc stations))
          (hits_of w ts n b (suc stations))
          (node_hits w ts b 0 0 (suc n))
          (hits_of w ts n (b + 1) (suc stations))
          old
          out
          at
          here
          k
          (stations_more w ts n b (suc stations) (omega arith))

      pub station_more : (out' : List ℕ) (here' : ℕ) → out' ≡ put here (node_hits w ts b 0 0 (suc n)) out
          → here' ≡ here + length (node_hits w ts b 0 0 (suc n))
          → Writing (hits_of w ts n 1 (suc stations)) (hits_of w ts n (b + 1) (suc stations)) old out' at here'
      station_more =
          writing_more
          (hits_of w ts n 1 (suc stations))
          (hits_of w ts n b (suc stations))
          (node_hits w ts b 0 0 (suc n))
          (hits_of w ts n (b + 1) (suc stations))
          old
          out
          at
          here
          k
          (stations_more w ts n b (suc stations) (omega arith))

    pub stations_done : stations + 1 ≤ b → out ≡ put at (hits_of w ts n 1 (suc stations)) old
    stations_done h =
        writing_done
        (hits_of w ts n 1 (suc stations))
        (hits_of w ts n b (suc stations))
        old
        out
        at
        here
        k
        (stations_none w ts n b (suc stations) (omega arith))

-- The arcs of a store, which rise by target and then predecessor: for each station, go through the nodes by number and
-- note those with an arc to it. There are as many of them as nodes have arcs, counted node by node.
use Rattle.std.specs.Prelude.{◌≡◌, Bool, get_or}
use Rattle.std.proofs.Math.Path.{refl, ap, subst}
use Rattle.std.proofs.Common.{sym, ◌∙◌, add-zero, zero-add}
use Rattle.std.proofs.Math.Bool.{true, false}
use mathlib.Core.List.Memᴰ
use mathlib.Core.List.{List, [], ◌∷◌, ◌++◌}
use Prim.Native.Nat.{ℕ, zero, suc, ◌+◌, ◌<◌}
use native.Mathlib.Omega.{arith}
use Rattle.std.proofs.Math.Dec.{T}
use Rattle.std.proofs.Math.ListN.{length, length-append}
use Rattle.timetable.specs.Timetable.{stations_most}
use Rattle.timetable.specs.Access.{stations_few}
use Rattle.lists.specs.Lists.{◌∈◌, keep, filter, concat_map, range, before, Rising}
use Rattle.lists.specs.Members.{none, kept_cases, keep_here, keep_there, concat_map_in, concat_map_out}
use Rattle.lists.specs.Members.{range_in, range_out}
use Rattle.lists.specs.Order.{before_head, before_tail, before_same}
use Rattle.lists.specs.Sorting.{Inside, rising_unique}
use Rattle.stores.specs.Words.{front, final, nodes, place, entry, arcs}
use Rattle.lists.specs.Pigeonhole.{Within}
use Rattle.stores.specs.Sequences.{Odd, odd_full, final_within, place_get, place_bound}
use Rattle.stores.specs.Nodes.{front_known}
use Rattle.stores.specs.RoundTrip.{arc_out as entry_out, arc_in as entry_in, arcs_rising}
use Rattle.store_tree.specs.Tree.{has_arc, all_stations, arcs_of, rooted, node_at, Made}
use Rattle.store_tree.specs.Numbering.{arc_in, arc_out, final_join, front_join, joined, place_at, rooted_rising}
use Rattle.store_tree.specs.Numbering.{root_first, rising_append}

-- the arcs to b of the nodes of ss, the first of which has number v
unfoldable pub arcs_to : (ps : List (List ℕ)) (b v : ℕ) → (ss : List (List ℕ)) → List (List ℕ)
arcs_to ps b v [] = []
arcs_to ps b v (s ∷ ss) = keep (has_arc ps s b) (b ∷ v ∷ []) (arcs_to ps b (suc v) ss)

module _ (ps : List (List ℕ)) where
  -- an arc comes from a node of the list
  pub record ArcFrom (b v : ℕ) (ss : List (List ℕ)) (z : List ℕ) : Type 0 where
    pub index : ℕ
    pub listed : index < length ss
    pub has : T (has_arc ps (get_or ss index []) b)
    pub is : z ≡ b ∷ (v + index) ∷ []

  pub to_out : (b v : ℕ) (ss : List (List ℕ)) (z : List ℕ) → z ∈ arcs_to ps b v ss → ArcFrom b v ss z
  unfolding arcs_to
  to_out b v [] z m = none m
  to_out b v (s ∷ ss) z m = go (to_out b (suc v) ss z)
    where
      go : (z ∈ arcs_to ps b (suc v) ss → ArcFrom b (suc v) ss z) → ArcFrom b v (s ∷ ss) z
      go ih =
          kept_cases
          (has_arc ps s b)
          m
          (λ e t. record { index = 0; listed = omega arith; has = t; is = e ∙ ap (λ i. b ∷ i ∷ []) (sym (add-zero v)) })
          (λ i.
          let r = ih i in
          let far : suc v + r.index ≡ v + suc r.index = omega arith in
          record {
            index = suc r.index;
            listed = omega (arith, r.listed);
            has = r.has;
            is = r.is ∙ ap (λ i. b ∷ i ∷ []) far;
          })

  pub to_in : (b v : ℕ) (ss : List (List ℕ)) (i : ℕ) → i < length ss → T (has_arc ps (get_or ss i []) b)
      → (b ∷ (v + i) ∷ []) ∈ arcs_to ps b v ss
  unfolding arcs_to
  to_in b v [] i h t = absurd (omega arith)
  to_in b v (s ∷ ss) zero h t =
      keep_here (arcs_to ps b (suc v) ss) (has_arc ps s b) (ap (λ i. b ∷ i ∷ []) (add-zero v)) t
  to_in b v (s ∷ ss) (suc i) h t =
      let near : v + suc i ≡ suc v + i = omega arith in
      keep_there
      (b ∷ v ∷ [])
      (has_arc ps s b)
      (Memᴰ.cast (ap (λ i. b ∷ i ∷ []) near) (to_in b (suc v) ss i (omega arith) t))

  pub to_rising : (b v : ℕ) (ss : List (List ℕ)) → Rising (arcs_to ps b v ss)
  unfolding arcs_to
  to_rising b v [] = tt
  to_rising b v (s ∷ ss) = go (has_arc ps s b) (to_rising b (suc v) ss)
    where
      first : (z : List ℕ) → z ∈ arcs_to ps b (suc v) ss → T (before (b ∷ v ∷ []) z)
      first z m =
          let r = to_out b (suc v) ss z m in
          subst
          (λ y. T (before (b ∷ v ∷ []) y))
          (sym r.is)
          (before_tail b b (v ∷ []) ((suc v + r.index) ∷ []) refl
          (before_head v (suc v + r.index) [] [] (omega arith)))

      go : (t : Bool) → Rising (arcs_to ps b (suc v) ss) → Rising (keep t (b ∷ v ∷ []) (arcs_to ps b (suc v) ss))
      go true ih = (first, ih)
      go false ih = ih

  pub all_rising : (v : ℕ) (ss : List (List ℕ)) (i k : ℕ) → Rising (concat_map (λ b. arcs_to ps b v ss) (range i k))
  all_rising v ss i zero = tt
  all_rising v ss i (suc k) =
      rising_append
      (arcs_to ps i v ss)
      (concat_map (λ b. arcs_to ps b v ss) (range (suc i) k))
      (to_rising i v ss)
      (all_rising v ss (suc i) k)
      apart
    where
      apart : (x y : List ℕ) → x ∈ arcs_to ps i v ss → y ∈ concat_map (λ b. arcs_to ps b v ss) (range (suc i) k)
          → T (before x y)
      apart x y m n =
          let r = to_out i v ss x m in
          let c = concat_map_out (λ b. arcs_to ps b v ss) (range (suc i) k) n in
          let u = to_out c.0 v ss y c.2 in
          let h = range_out (suc i) k c.0 c.1 in
          before_same
          (sym r.is)
          (sym u.is)
          (before_head i c.0 ((v + r.index) ∷ []) ((v + u.index) ∷ []) (omega (arith, h)))

  -- ---- they are the arcs of the store
  module _ (k : ℕ) (odd : (p : List ℕ) → p ∈ ps → Odd p) (within : (p : List ℕ) → p ∈ ps → Within k p) where
    abbrev found : List (List ℕ)
    found = concat_map (λ b. arcs_to ps b 0 (rooted ps)) (range 1 k)

    -- the entry of a sequence is its arc
    arc_entry : (v b : ℕ) → v < length (rooted ps) → entry (nodes ps) (node_at ps v ++ (b ∷ [])) ≡ b ∷ v ∷ []
    arc_entry v b h =
        ap (λ f. f ∷ place (front (node_at ps v ++ (b ∷ []))) ([] ∷ nodes ps) ∷ []) (final_join (node_at ps v) b)
        ∙ ap (λ q. b ∷ place q ([] ∷ nodes ps) ∷ []) (front_join (node_at ps v) b)
        ∙ ap (λ l. b ∷ place (node_at ps v) l ∷ []) (sym (root_first ps))
        ∙ ap (λ i. b ∷ i ∷ []) (place_at (rooted ps) (rooted_rising ps) v h)

    found_inside : Inside found (arcs ps)
    found_inside z m =
        let c = concat_map_out (λ b. arcs_to ps b 0 (rooted ps)) (range 1 k) m in
        let b = c.0 in
        let r = to_out b 0 (rooted ps) z c.2 in
        let v = r.index in
        Memᴰ.cast
        (r.is ∙ ap (λ i. b ∷ i ∷ []) (zero-add v) ∙ sym (arc_entry v b r.listed))
        (entry_in ps (node_at ps v ++ (b ∷ [])) (arc_out ps (node_at ps v) b r.has))

    arcs_inside : Inside (arcs ps) found
    arcs_inside z m =
        let r = entry_out ps z m in
        let p = r.0 in
        let full = odd_full p (odd p r.1) in
        let known : front p ∈ rooted ps = rw (root_first ps) (front_known ps p r.1 (odd p r.1)) in
        let v = place (front p) (rooted ps) in
        let inside = place_bound (front p) (rooted ps) known in
        let is_front : node_at ps v ≡ front p = place_get (front p) (rooted ps) known in
        let has : T (has_arc ps (node_at ps v) (final p)) =
        rw is_front (arc_in ps (front p) (final p) (Memᴰ.cast (joined p full) r.1)) in
        let w = final_within k p full (within p r.1) in
        Memᴰ.cast
        (sym r.2
        ∙ ap (λ l. final p ∷ place (front p) l ∷ []) (sym (root_first ps))
        ∙ ap (λ i. final p ∷ i ∷ []) (sym (zero-add v)))
        (concat_map_in
        (λ b. arcs_to ps b 0 (rooted ps))
        (range_in 1 k (final p) w.0 (omega (arith, w.1)))
        (to_in (final p) 0 (rooted ps) v inside has))

    pub arc_order : found ≡ arcs ps
    arc_order =
        rising_unique found (arcs ps) (all_rising 0 (rooted ps) 1 k) (arcs_rising ps) found_inside arcs_inside

  -- ---- counted node by node
  abbrev some : List ℕ → List ℕ → List ℕ
  some bs s = filter (has_arc ps s) bs

  none_some : (ss : List (List ℕ)) → length (concat_map (some []) ss) ≡ 0
  none_some [] = refl
  none_some (s ∷ ss) = none_some ss

  one_more : (b v : ℕ) (bs : List ℕ) (ss : List (List ℕ))
      → length (concat_map (some (b ∷ bs)) ss) ≡ length (arcs_to ps b v ss) + length (concat_map (some bs) ss)
  unfolding arcs_to
  one_more b v bs [] = refl
  one_more b v bs (s ∷ ss) = go (has_arc ps s b) (one_more b (suc v) bs ss)
    where
      go : (t : Bool)
          → length (concat_map (some (b ∷ bs)) ss)
          ≡ length (arcs_to ps b (suc v) ss) + length (concat_map (some bs) ss)
          → length (keep t b (some bs s) ++ concat_map (some (b ∷ bs)) ss)
          ≡ length (keep t (b ∷ v ∷ []) (arcs_to ps b (suc v) ss)) + length (some bs s ++ concat_map (some bs) ss)
      go true ih =
          omega (
            arith,
            ih,
            length-append (b ∷ some bs s) (concat_map (some (b ∷ bs)) ss),
            length-append (some bs s) (concat_map (some bs) ss),
          )
      go false ih =
          omega (
            arith,
            ih,
            length-append (some bs s) (concat_map (some (b ∷ bs)) ss),
            length-append (some bs s) (concat_map (some bs) ss),
          )

  tally : (v : ℕ) (ss : List (List ℕ)) (bs : List ℕ)
      → length (concat_map (some bs) ss) ≡ length (concat_map (λ b. arcs_to ps b v ss) bs)
  tally v ss [] = none_some ss
  tally v ss (b ∷ bs) =
      omega (
        arith,
        one_more b v bs ss,
        tally v ss bs,
        length-append (arcs_to ps b v ss) (concat_map (λ b. arcs_to ps b v ss) bs),
      )

  pub arcs_counted : (w : List ℕ) → Made w ps → length (concat_map (arcs_of ps) (rooted ps)) ≡ length (arcs ps)
  unfolding arcs_of all_stations
  arcs_counted w made =
      tally 0 (rooted ps) (range 1 stations_most) ∙ ap length (arc_order stations_most made.odd all)
    where
      all : (p : List ℕ) → p ∈ ps → Within stations_most p
      all p m x i = let h = made.within p m x i in (h.0, omega (arith, h.1, stations_few w made.timetable))

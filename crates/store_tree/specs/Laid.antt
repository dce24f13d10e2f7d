-- The words of a store, as they are written from the words of nodes and the targets: stations and parent of each node,
-- and then for each station the nodes with an arc to it. Once all nodes are taken they are the words of the store.
use Rattle.std.specs.Prelude.{◌≡◌, Bool, true, false, cond, ◌≢◌, eqb, get_or}
use Rattle.std.proofs.Math.Path.{refl, sym, ap}
use Rattle.std.proofs.Common.{◌∙◌, add-zero, zero-add, add-one, eq-eqb, ne_eqb, take-append-drop, get_or-drop}
use Rattle.std.proofs.Common.{drop-drop}
use mathlib.Core.List.Memᴰ.{head as here}
use mathlib.Core.List.{List, [], ◌∷◌, ◌++◌, map, append_assoc, append-nil}
use mathlib.Core.List.Memᴰ.{tail as there}
use Prim.Native.Nat.{ℕ, zero, suc, ◌+◌, ◌-◌, ◌≤◌, ◌<◌}
use Rattle.std.proofs.Math.Decide.{ℕ_discrete}
use native.Mathlib.Omega.{arith}
use Rattle.std.proofs.Math.ListN.{length, drop, length-append}
use Rattle.timetable.specs.Timetable.{stations_most}
use Rattle.lists.specs.Lists.{◌∈◌, keep, filter, concat_map, range}
use Rattle.lists.specs.Members.{range_out}
use Rattle.timetable.specs.Words.{station_count}
use Rattle.timetable.specs.Access.{stations_few}
use Rattle.stores.specs.Words.{nodes, node_entry, arcs, flat, encode}
use Rattle.store_slots.specs.Slots.{transfer_at}
use Rattle.store_tree.specs.Tree.{has_arc, all_stations, arcs_of, rooted, Made, slot_in, parent_in, arcs_in, Grown}
use Rattle.store_tree.specs.Parents.{last_is}
use Rattle.store_tree.specs.ArcOrder.{arcs_to, arc_order, arcs_counted}
use Rattle.words.specs.Written.{left_next}
use Rattle.store_tree.specs.Held.{concat_map_append}
use Rattle.store_tree.specs.Finished.{all_rooted, grown_nodes, grown_targets, grown_arcs}
use Rattle.store_tree.specs.Says.{says_slot, says_parent, says_arcs}

-- the stations alighted and boarded at of node v, and its parent, for the timetable that the words t spell
abbrev pub entry_at : (t w : List ℕ) → ℕ → List ℕ
entry_at t w v =
    (transfer_at t (slot_in (get_or w v 0))).alighted
    ∷ (transfer_at t (slot_in (get_or w v 0))).boarded
    ∷ parent_in (get_or w v 0)
    ∷ []

unfoldable pub entries_to : (t w : List ℕ) → (v end : ℕ) → List ℕ
entries_to t w v end = concat_map (entry_at t w) (range v (end - v))

-- an arc of node v, if its target is b
unfoldable pub arc_words : (target b v : ℕ) → List ℕ
arc_words target b v = cond (eqb target b) (b ∷ v ∷ []) []

-- of the targets from index i to end, those that are b
unfoldable pub hits_to : (ts : List ℕ) (b v i end : ℕ) → List ℕ
hits_to ts b v i end = concat_map (λ i. arc_words (get_or ts i 0) b v) (range i (end - i))

-- the arcs to b of k nodes from v on, the targets of which begin at index i
unfoldable pub node_hits : (w ts : List ℕ) (b i v k : ℕ) → List ℕ
node_hits w ts b i v zero = []
node_hits w ts b i v (suc k) =
    hits_to ts b v i (i + arcs_in (get_or w v 0)) ++ node_hits w ts b (i + arcs_in (get_or w v 0)) (suc v) k

-- how many targets these nodes have
unfoldable pub total : (w : List ℕ) (v k : ℕ) → ℕ
total w v zero = 0
total w v (suc k) = arcs_in (get_or w v 0) + total w (suc v) k

-- the arcs to the stations from b to end
unfoldable pub hits_of : (w ts : List ℕ) (n b end : ℕ) → List ℕ
hits_of w ts n b end = concat_map (λ b. node_hits w ts b 0 0 (suc n)) (range b (end - b))

unfoldable pub laid : (t w ts : List ℕ) (n m : ℕ) → List ℕ
laid t w ts n m = n ∷ m ∷ (entries_to t w 1 (suc n) ++ hits_of w ts n 1 (suc (station_count t)))

-- ---- lists that are joined
module _ {A B : Type 0} (f g : A → List B) where
  concat_map_same : (l : List A) → ((x : A) → x ∈ l → f x ≡ g x) → concat_map f l ≡ concat_map g l
  concat_map_same [] h = refl
  concat_map_same (x ∷ l) h = λ i. h x (here refl) i ++ concat_map_same l (λ y m. h y (there m)) i

flat_append : (a b : List (List ℕ)) → flat (a ++ b) ≡ flat a ++ flat b
flat_append a b = concat_map_append (λ x. x) a b

flat_concat : {A : Type 0} (f : A → List (List ℕ)) (l : List A) → flat (concat_map f l) ≡ concat_map (λ x. flat (f x)) l
flat_concat f [] = refl
flat_concat f (x ∷ l) = flat_append (f x) (concat_map f l) ∙ ap (λ m. flat (f x) ++ m) (flat_concat f l)

-- ---- the nodes
entries_flat : (f : ℕ → List ℕ) (g : List ℕ → List ℕ) (i : ℕ) (l : List (List ℕ))
    → ((j : ℕ) → j < length l → f (i + j) ≡ g (get_or l j [])) → concat_map f (range i (length l)) ≡ flat (map g l)
entries_flat f g i [] h = refl
entries_flat f g i (q ∷ l) h =
    let rest : (j : ℕ) → j < length l → f (suc i + j) ≡ g (get_or l j []) =
    λ j b. ap f (omega arith) ∙ h (suc j) (omega arith) in
    let ih = entries_flat f g (suc i) l rest in
    let first : f i ≡ g q = ap f (sym (add-zero i)) ∙ h 0 (omega arith) in
    λ j. first j ++ ih j

-- ---- the arcs of a node
module _ (b v : ℕ) (p : ℕ → Bool) where
  abbrev hits : List ℕ → List ℕ
  hits l = concat_map (λ t. arc_words t b v) l

  miss : (t : ℕ) → t ≢ b → arc_words t b v ≡ []
  unfolding arc_words
  miss t h = rw (ne_eqb t b h)

  hit : (t : ℕ) → t ≡ b → arc_words t b v ≡ b ∷ v ∷ []
  unfolding arc_words
  hit t h = rw (eq-eqb t b h)

  hits_keep : (c : Bool) (i : ℕ) (l : List ℕ) → i ≢ b → hits (keep c i l) ≡ hits l
  hits_keep true i l h = ap (λ x. x ++ hits l) (miss i h)
  hits_keep false i l h = refl

  hits_past : (i k : ℕ) → b < i → hits (filter p (range i k)) ≡ []
  hits_past i zero h = refl
  hits_past i (suc k) h =
      hits_keep (p i) i (filter p (range (suc i) k)) (λ e. omega arith) ∙ hits_past (suc i) k (omega arith)

  -- b is among these numbers, and is hit if it passes the test
  pub hits_one : (i k : ℕ) → i ≤ b → b < i + k → hits (filter p (range i k)) ≡ flat (keep (p b) (b ∷ v ∷ []) [])
  hits_one i zero h g = absurd (omega arith)
  hits_one i (suc k) h g = elim (ℕ_discrete i b) [ yes e ↦ this e | no e ↦ later e (hits_one (suc i) k) ]
    where
      rest : List ℕ
      rest = filter p (range (suc i) k)

      found : (c : Bool) → i ≡ b → hits (keep c i rest) ≡ flat (keep c (b ∷ v ∷ []) [])
      found true e = (λ j. hit i e j ++ hits_past (suc i) k (omega arith) j)
      found false e = hits_past (suc i) k (omega arith)

      this : i ≡ b → hits (keep (p i) i rest) ≡ flat (keep (p b) (b ∷ v ∷ []) [])
      this e = found (p i) e ∙ ap (λ x. flat (keep (p x) (b ∷ v ∷ []) [])) e

      later : i ≢ b → (suc i ≤ b → b < suc i + k → hits rest ≡ flat (keep (p b) (b ∷ v ∷ []) []))
          → hits (keep (p i) i rest) ≡ flat (keep (p b) (b ∷ v ∷ []) [])
      later e ih = hits_keep (p i) i rest e ∙ ih (omega (arith, e)) (omega arith)

node_hits_lem : (ps : List (List ℕ)) (s : List ℕ) (b v : ℕ) → 1 ≤ b → b ≤ stations_most
    → concat_map (λ t. arc_words t b v) (arcs_of ps s) ≡ flat (keep (has_arc ps s b) (b ∷ v ∷ []) [])
unfolding arcs_of all_stations
node_hits_lem ps s b v low high = hits_one b v (has_arc ps s) 1 stations_most low (omega arith)

-- targets that stand in a row
hits_row : (ts : List ℕ) (f : ℕ → List ℕ) (i : ℕ) (l rest : List ℕ) → drop i ts ≡ l ++ rest
    → concat_map (λ i. f (get_or ts i 0)) (range i (length l)) ≡ concat_map f l
hits_row ts f i [] rest e = refl
hits_row ts f i (t ∷ l) rest e =
    let first : get_or ts i 0 ≡ t =
    ap (λ j. get_or ts j 0) (sym (add-zero i)) ∙ sym (get_or-drop i ts 0 0) ∙ ap (λ l. get_or l 0 0) e in
    let next : drop (suc i) ts ≡ l ++ rest =
    ap (λ j. drop j ts) (sym (add-one i)) ∙ sym (drop-drop 1 i ts) ∙ ap (drop 1) e in
    let ih = hits_row ts f (suc i) l rest next in
    λ j. f (first j) ++ ih j

-- ---- the arcs of all nodes
module _ (ps : List (List ℕ)) (w ts : List ℕ) where
  -- the words of the nodes of ss, from number v on, count their arcs
  abbrev Counts : (v : ℕ) (ss : List (List ℕ)) → Type 0
  Counts v ss = (j : ℕ) → j < length ss → arcs_in (get_or w (v + j) 0) ≡ length (arcs_of ps (get_or ss j []))

  count_first : (v : ℕ) (s : List ℕ) (ss : List (List ℕ)) → Counts v (s ∷ ss)
      → arcs_in (get_or w v 0) ≡ length (arcs_of ps s)
  count_first v s ss c = ap (λ u. arcs_in (get_or w u 0)) (sym (add-zero v)) ∙ c 0 (omega arith)

  count_rest : (v : ℕ) (s : List ℕ) (ss : List (List ℕ)) → Counts v (s ∷ ss) → Counts (suc v) ss
  count_rest v s ss c j h =
      let near : suc v + j ≡ v + suc j = omega arith in
      ap (λ u. arcs_in (get_or w u 0)) near ∙ c (suc j) (omega arith)

  pub total_is : (v : ℕ) (ss : List (List ℕ)) → Counts v ss
      → total w v (length ss) ≡ length (concat_map (arcs_of ps) ss)
  unfolding total
  total_is v [] c = refl
  total_is v (s ∷ ss) c =
      omega (
        arith,
        count_first v s ss c,
        total_is (suc v) ss (count_rest v s ss c),
        length-append (arcs_of ps s) (concat_map (arcs_of ps) ss),
      )

  module _ (b : ℕ) (low : 1 ≤ b) (high : b ≤ stations_most) where
    -- the targets of one node
    module _ (i v : ℕ) (s rest : List ℕ) (at : drop i ts ≡ arcs_of ps s ++ rest)
        (is : arcs_in (get_or w v 0) ≡ length (arcs_of ps s)) where
      hits_node : hits_to ts b v i (i + arcs_in (get_or w v 0)) ≡ flat (keep (has_arc ps s b) (b ∷ v ∷ []) [])
      unfolding hits_to
      hits_node =
          let long : i + arcs_in (get_or w v 0) - i ≡ length (arcs_of ps s) = omega (arith, is) in
          ap (λ k. concat_map (λ i. arc_words (get_or ts i 0) b v) (range i k)) long
          ∙ hits_row ts (λ t. arc_words t b v) i (arcs_of ps s) rest at
          ∙ node_hits_lem ps s b v low high

      next_targets : drop (i + arcs_in (get_or w v 0)) ts ≡ rest
      next_targets = ap (λ c. drop (i + c) ts) is ∙ left_next ts i (arcs_of ps s) rest at

    keep_flat : (c : Bool) (x : List ℕ) (l : List (List ℕ)) → flat (keep c x []) ++ flat l ≡ flat (keep c x l)
    keep_flat true x l = ap (λ y. y ++ flat l) (append-nil x)
    keep_flat false x l = refl

    pub hits_nodes : (i v : ℕ) (ss : List (List ℕ)) (rest : List ℕ) → Counts v ss
        → drop i ts ≡ concat_map (arcs_of ps) ss ++ rest → node_hits w ts b i v (length ss) ≡ flat (arcs_to ps b v ss)
    unfolding node_hits arcs_to
    hits_nodes i v [] rest c at = refl
    hits_nodes i v (s ∷ ss) rest c at =
        let behind = concat_map (arcs_of ps) ss ++ rest in
        let here' : drop i ts ≡ arcs_of ps s ++ behind =
        at ∙ append_assoc (arcs_of ps s) (concat_map (arcs_of ps) ss) rest in
        let is = count_first v s ss c in
        let ih =
        hits_nodes (i + arcs_in (get_or w v 0)) (suc v) ss rest (count_rest v s ss c)
        (next_targets i v s behind here' is) in
        (λ j. hits_node i v s behind here' is j ++ ih j)
        ∙ keep_flat (has_arc ps s b) (b ∷ v ∷ []) (arcs_to ps b (suc v) ss)

-- ---- the words of the store
module _
    (t : List ℕ)
    (ps : List (List ℕ))
    (made : Made t ps)
    (source : ℕ)
    (w ts : List ℕ)
    (n m : ℕ)
    (g : Grown t ps source w ts n m (suc n))
  where
    long : length (rooted ps) ≡ suc n
    long = all_rooted t ps made source w ts n m g

    counts : Counts ps w ts 0 (rooted ps)
    counts j h =
        ap (λ u. arcs_in (get_or w u 0)) (zero-add j)
        ∙ says_arcs t ps made source w ts n m (suc n) g j (omega (arith, long)) (omega (arith, long))

    all_targets : drop 0 ts ≡ concat_map (arcs_of ps) (rooted ps) ++ drop m ts
    all_targets =
        sym (take-append-drop m ts) ∙ ap (λ l. l ++ drop m ts) (grown_targets t ps made source w ts n m g)

    -- there are m targets in all
    pub laid_total : total w 0 (suc n) ≡ m
    laid_total =
        ap (total w 0) (sym long)
        ∙ total_is ps w ts 0 (rooted ps) counts
        ∙ arcs_counted ps t made
        ∙ sym (grown_arcs t ps made source w ts n m g)

    arcs_to_lem : (b : ℕ) → 1 ≤ b → b ≤ station_count t → node_hits w ts b 0 0 (suc n) ≡ flat
        (arcs_to ps b 0 (rooted ps))
    arcs_to_lem b low high =
        ap (node_hits w ts b 0 0) (sym long)
        ∙ hits_nodes ps w ts b low (omega (arith, high, stations_few t made.timetable)) 0 0 (rooted ps) (drop m ts)
        counts
        all_targets

    pub laid_arcs : hits_of w ts n 1 (suc (station_count t)) ≡ flat (arcs ps)
    unfolding hits_of
    laid_arcs =
        let k = station_count t in
        let many : suc k - 1 ≡ k = omega arith in
        ap (λ c. concat_map (λ b. node_hits w ts b 0 0 (suc n)) (range 1 c)) many
        ∙ concat_map_same
        (λ b. node_hits w ts b 0 0 (suc n))
        (λ b. flat (arcs_to ps b 0 (rooted ps)))
        (range 1 k)
        (λ b i. (let r = range_out 1 k b i in arcs_to_lem b r.0 (omega (arith, r.1))))
        ∙ sym (flat_concat (λ b. arcs_to ps b 0 (rooted ps)) (range 1 k))
        ∙ ap flat (arc_order ps k made.odd made.within)

    entry_at_lem : (j : ℕ) → j < length (nodes ps) → entry_at t w (1 + j) ≡ node_entry (nodes ps)
        (get_or (nodes ps) j [])
    unfolding rooted
    entry_at_lem j h =
        let near : 1 + j ≡ suc j = omega arith in
        let on : suc j ≤ n = omega (arith, grown_nodes t ps made source w ts n m g) in
        let inside : suc j < length (rooted ps) = omega (arith, long) in
        let stations =
        says_slot t ps made source w ts n m (suc n) g (suc j) on ∙ last_is ps j inside source in
        ap (entry_at t w) near
        ∙ λ i.
        (stations i).alighted
        ∷ (stations i).boarded
        ∷ says_parent t ps made source w ts n m (suc n) g (suc j) on i
        ∷ []

    pub laid_entries : entries_to t w 1 (suc n) ≡ flat (map (node_entry (nodes ps)) (nodes ps))
    unfolding entries_to
    laid_entries =
        let many : suc n - 1 ≡ length (nodes ps) = omega (arith, grown_nodes t ps made source w ts n m g) in
        ap (λ c. concat_map (entry_at t w) (range 1 c)) many
        ∙ entries_flat (entry_at t w) (node_entry (nodes ps)) 1 (nodes ps) entry_at_lem

    pub laid_is : laid t w ts n m ≡ encode ps
    unfolding laid encode
    laid_is =
        λ i.
        grown_nodes t ps made source w ts n m g i
        ∷ grown_arcs t ps made source w ts n m g i
        ∷ (laid_entries i ++ laid_arcs i)

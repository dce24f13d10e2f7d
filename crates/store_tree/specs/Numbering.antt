-- The nodes of a store, shorter ones first and then by station, are numbered as the tree grows: all kids of the first
-- node, then those of the next. If nodes rise, so do their kids, node by node and slots in their order, since a kid is
-- one change longer than its parent; and every node but the root is the kid of a node.
use Rattle.std.specs.Prelude.{◌≡◌, Bool, true, false, not, ◌≢◌, ℕ, zero, suc, ◌<◌, length, get_or}
use Rattle.std.proofs.Math.Path.{refl, subst}
use Rattle.std.proofs.Common.{sym, ap, ◌∙◌, inl, inr, arith, length-append}
use mathlib.Core.List.Memᴰ.{head as here}
use mathlib.Core.List.{List, [], ◌∷◌, ◌++◌, map, map-append, append_assoc}
use mathlib.Core.List.Memᴰ
use mathlib.Core.List.Memᴰ.{tail as there}
use Rattle.std.proofs.Math.Dec.{T, not_T}
use Rattle.lists.specs.Places.{get_d_in}
use Rattle.timetable.specs.Words.{is_timetable}
use Rattle.lists.specs.Lists.{◌∈◌, keep, filter, concat_map, before, same, sort, Rising, tail}
use Rattle.lists.specs.Tests.{T_true, T_false}
use Rattle.lists.specs.Members.{none, cons_cases, append_cases, filter_in, filter_out, any_in, any_out, concat_map_in}
use Rattle.lists.specs.Members.{concat_map_out, same_eq, same_refl}
use Rattle.lists.specs.Order.{before_head, before_tail, before_cases, before_same, before_irrefl}
use Rattle.lists.specs.Sorting.{Inside, sort_out, sort_rising}
use Rattle.stores.specs.Words.{beginnings, front, final, keyed, nodes, count, place}
use Rattle.stores.specs.Sequences.{Even, rejoin, rejoin_two, begin_nonempty, begin_even}
use Rattle.stores.specs.Nodes.{node_in, nodes_made_lem, nodes_unique}
use Rattle.connections.specs.Connections.{Transfer}
use Rattle.store_slots.specs.Slots.{transfer_at, slots}
use Rattle.store_slots.specs.SlotLaws.{Precedes, Climbs, slots_climb}
use Rattle.store_tree.specs.Tree.{has_arc, changing, has_kid, kids_of, children, rooted, Slot, Slotted, Made}
use Rattle.store_tree.specs.Tree.{last_of}

-- ---- a sequence with more behind it
join_apart : (a b s t : List ℕ) → length s ≡ length t → T (before s t) → T (before (s ++ a) (t ++ b))
join_apart a b [] [] e h = absurd h
join_apart a b [] (y ∷ t) e h = absurd (omega arith)
join_apart a b (x ∷ s) [] e h = absurd h
join_apart a b (x ∷ s) (y ∷ t) e h =
    elim (before_cases x y s t h) [
      | inl g ↦ before_head x y (s ++ a) (t ++ b) g
      | inr g ↦ before_tail x y (s ++ a) (t ++ b) g.0 (join_apart a b s t (omega arith) g.1)
    ]

-- a change more
change_rises : (a b : Transfer) (s : List ℕ) → Precedes a b → T (before (changing s a) (changing s b))
change_rises a b [] (inl h) = before_head a.alighted b.alighted (a.boarded ∷ []) (b.boarded ∷ []) h
change_rises a b [] (inr h) =
    before_tail
    a.alighted
    b.alighted
    (a.boarded ∷ [])
    (b.boarded ∷ [])
    h.0
    (before_head a.boarded b.boarded [] [] h.1)
change_rises a b (x ∷ s) h = before_tail x x (changing s a) (changing s b) refl (change_rises a b s h)

longer : (a : Transfer) (s : List ℕ) → length (changing s a) ≡ suc (suc (length s))
longer a s = omega (arith, length-append s (a.alighted ∷ a.boarded ∷ []))

module _ (a b : Transfer) (s t : List ℕ) where
  -- the kids of a node that comes first come first
  kid_first : T (before (keyed s) (keyed t)) → T (before (keyed (changing s a)) (keyed (changing t b)))
  kid_first h =
      elim (before_cases (length s) (length t) s t h) [
        | inl g ↦
            before_head
            (length (changing s a))
            (length (changing t b))
            (changing s a)
            (changing t b)
            (omega (arith, longer a s, longer b t))
        | inr g ↦
            before_tail
            (length (changing s a))
            (length (changing t b))
            (changing s a)
            (changing t b)
            (omega (arith, longer a s, longer b t, g.0))
            (join_apart (a.alighted ∷ a.boarded ∷ []) (b.alighted ∷ b.boarded ∷ []) s t g.0 g.1)
      ]

-- the kids of one node rise by their changes
kid_rises : (a b : Transfer) (s : List ℕ) → Precedes a b → T (before (keyed (changing s a)) (keyed (changing s b)))
kid_rises a b s h =
    before_tail
    (length (changing s a))
    (length (changing s b))
    (changing s a)
    (changing s b)
    (omega (arith, longer a s, longer b s))
    (change_rises a b s h)

pub rising_append : (l m : List (List ℕ)) → Rising l → Rising m
    → ((x y : List ℕ) → x ∈ l → y ∈ m → T (before x y)) → Rising (l ++ m)
rising_append [] m p q h = q
rising_append (x ∷ l) m p q h = (first, rising_append l m p.1 q (λ y z i j. h y z (there i) j))
  where
    first : (z : List ℕ) → z ∈ l ++ m → T (before x z)
    first z i = append_cases l i (p.0 z) (h x z (here refl))

-- ---- the kids of all nodes
module _ (w : List ℕ) (ps : List (List ℕ)) where
  -- a kid is its parent with a change more, and a node
  pub child_out : (s q : List ℕ) → q ∈ children w ps s
      → (k : ℕ) × (k ∈ kids_of w ps s) × (changing s (transfer_at w k) ≡ q)
  unfolding children
  child_out s q m = Memᴰ.of_map (λ k. changing s (transfer_at w k)) (kids_of w ps s) m

  kids_rise : (s : List ℕ) (test : ℕ → Bool) (l : List ℕ) → Climbs w l
      → Rising (map keyed (map (λ k. changing s (transfer_at w k)) (filter test l)))
  kids_rise s test [] c = tt
  kids_rise s test (i ∷ l) c = go (test i) (kids_rise s test l c.1)
    where
      rest : List ℕ
      rest = filter test l

      first : (z : List ℕ) → z ∈ map keyed (map (λ k. changing s (transfer_at w k)) rest)
          → T (before (keyed (changing s (transfer_at w i))) z)
      first z m =
          let q = Memᴰ.of_map keyed (map (λ k. changing s (transfer_at w k)) rest) m in
          let b = Memᴰ.of_map (λ k. changing s (transfer_at w k)) rest q.1 in
          let h = c.0 b.0 (filter_out test l b.1).0 in
          subst
          (λ y. T (before (keyed (changing s (transfer_at w i))) y))
          (ap keyed b.2 ∙ q.2)
          (kid_rises (transfer_at w i) (transfer_at w b.0) s h)

      go : (t : Bool) → Rising (map keyed (map (λ k. changing s (transfer_at w k)) rest))
          → Rising (map keyed (map (λ k. changing s (transfer_at w k)) (keep t i rest)))
      go true ih = (first, ih)
      go false ih = ih

  module _ (yes : is_timetable w ≡ true) where
    pub children_rise : (s : List ℕ) → Rising (map keyed (children w ps s))
    unfolding children kids_of
    children_rise s = kids_rise s (λ k. has_kid ps s (transfer_at w k)) (slots w) (slots_climb w yes)

    pub all_children_rise : (l : List (List ℕ)) → Rising (map keyed l)
        → Rising (map keyed (concat_map (children w ps) l))
    all_children_rise [] r = tt
    all_children_rise (s ∷ l) r =
        subst
        Rising
        (sym (map-append keyed (children w ps s) (concat_map (children w ps) l)))
        (rising_append
        (map keyed (children w ps s))
        (map keyed (concat_map (children w ps) l))
        (children_rise s)
        (all_children_rise l r.1)
        apart)
      where
        apart : (x y : List ℕ) → x ∈ map keyed (children w ps s) → y ∈ map keyed (concat_map (children w ps) l)
            → T (before x y)
        apart x y m n =
            let q = Memᴰ.of_map keyed (children w ps s) m in
            let b = child_out s q.0 q.1 in
            let r' = Memᴰ.of_map keyed (concat_map (children w ps) l) n in
            let t = concat_map_out (children w ps) l r'.1 in
            let c = child_out t.0 r'.0 t.2 in
            before_same
            (ap keyed b.2 ∙ q.2)
            (ap keyed c.2 ∙ r'.2)
            (kid_first
            (transfer_at w b.0)
            (transfer_at w c.0)
            s
            t.0
            (r.0 (keyed t.0) (Memᴰ.map keyed t.1)))

-- ---- the root and the nodes rise
tail_first : (l : List (List ℕ)) → ((z : List ℕ) → z ∈ l → z ≡ keyed (tail z)) → map keyed (map tail l) ≡ l
tail_first [] h = refl
tail_first (z ∷ l) h = λ i. sym (h z (here refl)) i ∷ tail_first l (λ y m. h y (there m)) i

module _ (ps : List (List ℕ)) where
  nodes_rising : Rising (map keyed (nodes ps))
  unfolding nodes
  nodes_rising = subst Rising (sym (tail_first (sort keys) is_keyed)) (sort_rising keys)
    where
      keys : List (List ℕ)
      keys = map keyed (concat_map beginnings ps)

      is_keyed : (z : List ℕ) → z ∈ sort keys → z ≡ keyed (tail z)
      is_keyed z m =
          let k = Memᴰ.of_map keyed (concat_map beginnings ps) (sort_out keys m) in
          sym k.2 ∙ ap (λ v. keyed (tail v)) k.2

  pub root_first : rooted ps ≡ [] ∷ nodes ps
  unfolding rooted
  root_first = refl

  pub rooted_rising : Rising (map keyed (rooted ps))
  unfolding rooted
  rooted_rising = (first, nodes_rising)
    where
      long : (q : List ℕ) → q ≢ [] → T (before (keyed []) (keyed q))
      long [] h = absurd (h refl)
      long (x ∷ q) h = before_head 0 (suc (length q)) [] (x ∷ q) (omega arith)

      first : (z : List ℕ) → z ∈ map keyed (nodes ps) → T (before (keyed []) z)
      first z m =
          let q = Memᴰ.of_map keyed (nodes ps) m in
          subst (λ y. T (before (keyed []) y)) q.2 (long q.0 ((nodes_made_lem ps).nonempty q.0 q.1))

-- in a rising list each stands at its place
pub place_at : (l : List (List ℕ)) → Rising (map keyed l) → (v : ℕ) → v < length l → place (get_or l v []) l ≡ v
place_at [] r v h = absurd (omega arith)
place_at (q ∷ l) r zero h = ap (λ t. count t (place q l)) (T_true (same q q) (same_refl q))
place_at (q ∷ l) r (suc v) h =
    ap (λ t. count t (place (get_or l v []) l)) (T_false (same (get_or l v []) q) apart)
    ∙ ap suc (place_at l r.1 v (omega arith))
  where
    apart : T (not (same (get_or l v []) q))
    apart =
        not_T
        (same (get_or l v []) q)
        (λ t.
        before_irrefl
        (keyed q)
        (subst
        (λ y. T (before (keyed q) y))
        (ap keyed (same_eq (get_or l v []) q t))
        (r.0 (keyed (get_or l v [])) (Memᴰ.map keyed (get_d_in l v [] (omega arith))))))

-- ---- every node but the root is the kid of one
pub final_join : (s : List ℕ) (b : ℕ) → final (s ++ (b ∷ [])) ≡ b
final_join [] b = refl
final_join (x ∷ []) b = refl
final_join (x ∷ y ∷ s) b = final_join (y ∷ s) b

pub front_join : (s : List ℕ) (b : ℕ) → front (s ++ (b ∷ [])) ≡ s
front_join [] b = refl
front_join (x ∷ []) b = refl
front_join (x ∷ y ∷ s) b = ap (λ l. x ∷ l) (front_join (y ∷ s) b)

pub joined : (q : List ℕ) → q ≢ [] → front q ++ (final q ∷ []) ≡ q
joined [] h = absurd (h refl)
joined (x ∷ q) h = rejoin x q

-- and the same of a change
pub rejoined : (q : List ℕ) → q ≢ [] → Even q → front (front q) ++ (final (front q) ∷ final q ∷ []) ≡ q
rejoined [] h o = absurd (h refl)
rejoined (x ∷ []) h o = absurd o
rejoined (x ∷ y ∷ q) h o = rejoin_two x y q

module _ (s : List ℕ) (b : Transfer) where
  in_two : changing s b ≡ (s ++ (b.alighted ∷ [])) ++ (b.boarded ∷ [])
  in_two = sym (append_assoc s (b.alighted ∷ []) (b.boarded ∷ []))

  front_change : front (changing s b) ≡ s ++ (b.alighted ∷ [])
  front_change = ap front in_two ∙ front_join (s ++ (b.alighted ∷ [])) b.boarded

  pub before_change : front (front (changing s b)) ≡ s
  before_change = ap front front_change ∙ front_join s b.alighted

  -- what is told of the last change
  pub last_change : (source : ℕ) → last_of source (changing s b) ≡ b
  last_change source =
      λ i.
      record {
        alighted =
            (ap (λ l. final (source ∷ l)) front_change ∙ final_join (source ∷ s) b.alighted) i;
        boarded =
            (ap (λ l. final (source ∷ l)) in_two ∙ final_join (source ∷ (s ++ (b.alighted ∷ []))) b.boarded) i;
      }

-- the last change of a beginning is one that can be made
last_two_lem : (source x y : ℕ) (q : List ℕ) → q ≢ [] → Even q → last_of source (x ∷ y ∷ q) ≡ last_of source q
last_two_lem source x y [] h o = absurd (h refl)
last_two_lem source x y (z ∷ []) h o = absurd o
last_two_lem source x y (z ∷ u ∷ q) h o = refl

last_slot : (w : List ℕ) (source : ℕ) (q p : List ℕ) → q ∈ beginnings p → Slotted w p → Slot w (last_of source q)
last_slot w source q [] m h = none m
last_slot w source q (x ∷ []) m h = none m
last_slot w source q (x ∷ y ∷ p) m h =
    cons_cases
    m
    (λ e. subst (λ l. Slot w (last_of source l)) (sym e) h.0)
    (λ i. later (Memᴰ.of_map (λ l. x ∷ y ∷ l) (beginnings p) i) (λ r j. last_slot w source r p j h.1))
  where
    later : (r : List ℕ) × (r ∈ beginnings p) × (x ∷ y ∷ r ≡ q)
        → ((r : List ℕ) → r ∈ beginnings p → Slot w (last_of source r)) → Slot w (last_of source q)
    later r ih =
        subst
        (Slot w)
        (sym (last_two_lem source x y r.0 (begin_nonempty r.0 p r.1) (begin_even r.0 p r.1))
        ∙ ap (last_of source) r.2)
        (ih r.0 r.1)

module _ (ps : List (List ℕ)) where
  -- tests and what they say
  pub kid_out : (s : List ℕ) (b : Transfer) → T (has_kid ps s b) → changing s b ∈ concat_map beginnings ps
  unfolding has_kid
  kid_out s b t =
      let r = any_out (same (changing s b)) (concat_map beginnings ps) t in
      Memᴰ.cast (same_eq (changing s b) r.0 r.2) r.1

  pub kid_in : (s : List ℕ) (b : Transfer) → changing s b ∈ concat_map beginnings ps → T (has_kid ps s b)
  unfolding has_kid
  kid_in s b m = any_in (same (changing s b)) m (same_refl (changing s b))

  pub arc_out : (s : List ℕ) (b : ℕ) → T (has_arc ps s b) → s ++ (b ∷ []) ∈ ps
  unfolding has_arc
  arc_out s b t =
      let r = any_out (same (s ++ (b ∷ []))) ps t in
      Memᴰ.cast (same_eq (s ++ (b ∷ [])) r.0 r.2) r.1

  pub arc_in : (s : List ℕ) (b : ℕ) → s ++ (b ∷ []) ∈ ps → T (has_arc ps s b)
  unfolding has_arc
  arc_in s b m = any_in (same (s ++ (b ∷ []))) m (same_refl (s ++ (b ∷ [])))

module _ (w : List ℕ) (ps : List (List ℕ)) (made : Made w ps) where
  children_nodes : Inside (concat_map (children w ps) (rooted ps)) (concat_map beginnings ps)
  unfolding kids_of
  children_nodes q m =
      let s = concat_map_out (children w ps) (rooted ps) m in
      let b = child_out w ps s.0 q s.2 in
      let t = (filter_out (λ k. has_kid ps s.0 (transfer_at w k)) (slots w) b.1).1 in
      Memᴰ.cast (sym b.2) (kid_out ps s.0 (transfer_at w b.0) t)

  -- a beginning is a kid of what it is without its last change
  parent_known : (q : List ℕ) → q ∈ concat_map beginnings ps → front (front q) ∈ rooted ps
  unfolding rooted
  parent_known q m = (nodes_made_lem ps).closed q (node_in ps q m)

  -- every node ends with a change that can be made
  pub node_slot : (source : ℕ) (q : List ℕ) → q ∈ concat_map beginnings ps → Slot w (last_of source q)
  node_slot source q m =
      let r = concat_map_out beginnings ps m in
      last_slot w source q r.0 r.2 (made.paired r.0 r.1)

  module _ (q : List ℕ) (m : q ∈ concat_map beginnings ps) where
    full : q ≢ []
    full = let r = concat_map_out beginnings ps m in begin_nonempty q r.0 r.2

    even : Even q
    even = let r = concat_map_out beginnings ps m in begin_even q r.0 r.2

    last : Slot w (last_of 0 q)
    last = node_slot 0 q m

    again : changing (front (front q)) (transfer_at w last.slot) ≡ q
    again = ap (changing (front (front q))) last.is ∙ whole q full even
      where
        whole : (q : List ℕ) → q ≢ [] → Even q → changing (front (front q)) (last_of 0 q) ≡ q
        whole [] h o = absurd (h refl)
        whole (x ∷ []) h o = absurd o
        whole (x ∷ y ∷ q) h o = rejoin_two x y q

    kid_known : last.slot ∈ kids_of w ps (front (front q))
    unfolding kids_of
    kid_known =
        filter_in
        (λ k. has_kid ps (front (front q)) (transfer_at w k))
        last.listed
        (kid_in ps (front (front q)) (transfer_at w last.slot) (Memᴰ.cast again m))

    child_in : q ∈ children w ps (front (front q))
    unfolding children
    child_in =
        Memᴰ.cast (sym again) (Memᴰ.map (λ k. changing (front (front q)) (transfer_at w k)) kid_known)

  nodes_children : Inside (concat_map beginnings ps) (concat_map (children w ps) (rooted ps))
  nodes_children q m = concat_map_in (children w ps) (parent_known q m) (child_in q m)

  -- The nodes are the kids of the root, then those of the first node, and so on.
  pub numbering : nodes ps ≡ concat_map (children w ps) (rooted ps)
  numbering =
      sym
      (nodes_unique
      ps
      (concat_map (children w ps) (rooted ps))
      (all_children_rise w ps made.timetable (rooted ps) (rooted_rising ps))
      children_nodes
      nodes_children)

  pub rooted_is : rooted ps ≡ [] ∷ concat_map (children w ps) (rooted ps)
  rooted_is = root_first ps ∙ ap (λ l. [] ∷ l) numbering

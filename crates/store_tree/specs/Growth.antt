-- How the tree grows: it begins with its root, and taking a node adds its kids and arcs. What does not fit then does
-- not fit a store.
use Rattle.std.specs.Prelude.{◌≡◌, refl, true, cond, ◌≢◌, ℕ, zero, suc, ◌+◌, ◌-◌, ◌*◌, ◌≤◌, ◌<◌, ltb, length, take}
use Rattle.std.specs.Prelude.{drop, set}
use Rattle.std.proofs.Common.{sym, subst, ◌∙◌, inl, inr, add-one, arith, lt-ltb, le-ltb, ltb→lt, nltb→le, length-set}
use Rattle.std.proofs.Common.{take-append-drop, get_or-set_same, get_or-set_other}
use Rattle.std.proofs.Math.Path.{ap}
use mathlib.Core.List.{List, [], ◌∷◌, ◌++◌, map}
use Rattle.std.proofs.Math.Decide.{ℕ_discrete}
use Rattle.lists.specs.Tests.{either}
use Rattle.std.proofs.Math.ListN.{get_or, length-append, length-map, get_or-append}
use Rattle.std.proofs.Math.Seq.{get_or-append-add}
use Rattle.timetable.specs.Words.{station_count, is_timetable}
use Rattle.timetable.specs.Access.{stations_few}
use Rattle.words.specs.Put.{put, length_put}
use Rattle.lists.specs.Lists.{◌∈◌, concat_map}
use Rattle.lists.specs.Members.{filter_out}
use Rattle.lists.specs.Places.{get_d_in}
use Rattle.stores.specs.Words.{front, place, entries_most}
use Rattle.store_slots.specs.Slots.{here_slot, transfer_at, slots}
use Rattle.store_slots.specs.SlotLaws.{here_stands, here_listed}
use Rattle.store_tree.specs.Tree.{
  arcs_of,
  changing,
  has_kid,
  kids_of,
  children,
  rooted,
  node_at,
  Made,
  node_word,
  last_of,
  Word,
  Grown,
  TooMany,
}
use Rattle.store_tree.specs.Numbering.{before_change, last_change, place_at, rooted_rising}
use Rattle.store_tree.specs.Numbering.{root_first, rooted_is}
use Rattle.store_tree.specs.ArcOrder.{arcs_counted}
use Rattle.store_tree.specs.NodeWords.{word_counted}
use Rattle.store_tree.specs.Held.{
  concat_map_append,
  concat_map_suc,
  get_d_map,
  put_front,
  put_inside,
  take_put_behind,
}

-- ---- the root alone
pub grown_first : (w : List ℕ) (ps : List (List ℕ)) (source : ℕ) (work targets : List ℕ) → is_timetable w ≡ true
    → 1 ≤ source → source ≤ station_count w → length work ≡ 16384 → length targets ≡ 16384
    → get_or work 0 0 ≡ here_slot source → Grown w ps source work targets 0 0 0
unfolding node_word rooted
grown_first w ps source work targets spelled some near long long' root =
    record {
      inside = omega arith;
      node_count_lem = refl;
      arc_count_lem = refl;
      few_nodes = omega arith;
      few_arcs = omega arith;
      long_work = long;
      long_targets = long';
      words = only_root;
      listed = refl;
    }
  where
    only_root : (v : ℕ) → v ≤ 0 → Word w ps source 0 v (get_or work v 0)
    only_root zero h =
        record {
          slot = here_slot source;
          listed = here_listed w spelled source some near;
          stands = here_stands w source some (omega (arith, stations_few w spelled));
          is = omega (arith, root);
        }
    only_root (suc v) h = absurd (omega arith)

-- the root was just planted
pub planted : (w : List ℕ) (ps : List (List ℕ)) (source : ℕ) (work targets : List ℕ) → is_timetable w ≡ true
    → 1 ≤ source → source ≤ station_count w → length work ≡ 16384 → length targets ≡ 16384
    → Grown w ps source (set work 0 (source - 1)) targets 0 0 0
planted w ps source work targets spelled some near long long' =
    grown_first w ps source (set work 0 (source - 1)) targets spelled some near (length-set work 0 (source - 1) ∙ long)
    long'
    (get_or-set_same work 0 (source - 1) 0 (omega arith))

module _ (w : List ℕ) (ps : List (List ℕ)) where
  -- ---- the kids of the first nodes are the nodes that follow
  module _ (made : Made w ps) (v : ℕ) where
    pub split : rooted ps
        ≡ [] ∷ (concat_map (children w ps) (take v (rooted ps)) ++ concat_map (children w ps) (drop v (rooted ps)))
    split =
        rooted_is w ps made
        ∙ ap (λ l. [] ∷ concat_map (children w ps) l) (sym (take-append-drop v (rooted ps)))
        ∙ ap (λ l. [] ∷ l) (concat_map_append (children w ps) (take v (rooted ps)) (drop v (rooted ps)))

    pub reach : suc (length (concat_map (children w ps) (take v (rooted ps)))) ≤ length (rooted ps)
    reach =
        omega (
          arith,
          ap length split,
          length-append
              (concat_map (children w ps) (take v (rooted ps)))
              (concat_map (children w ps) (drop v (rooted ps))),
        )

  pub length_children : (s : List ℕ) → length (children w ps s) ≡ length (kids_of w ps s)
  unfolding children
  length_children s = length-map (kids_of w ps s) (λ k. changing s (transfer_at w k))

  child_at : (s : List ℕ) (i : ℕ) → i < length (kids_of w ps s)
      → get_or (children w ps s) i [] ≡ changing s (transfer_at w (get_or (kids_of w ps s) i 0))
  unfolding children
  child_at s i h = get_d_map (λ k. changing s (transfer_at w k)) (kids_of w ps s) i 0 [] h

module _ (w : List ℕ) (ps : List (List ℕ)) (made : Made w ps) where
  -- the kids of node v stand behind the nodes that come from those before it
  module _ (v : ℕ) (inside : v < length (rooted ps)) where
    known : List (List ℕ)
    known = concat_map (children w ps) (take v (rooted ps))

    later : List (List ℕ)
    later = concat_map (children w ps) (drop (suc v) (rooted ps))

    pub kid_at : (n i : ℕ) → n ≡ length (concat_map (children w ps) (take v (rooted ps)))
        → i < length (kids_of w ps (node_at ps v))
        → node_at ps (suc (n + i)) ≡ changing (node_at ps v) (transfer_at w (get_or (kids_of w ps (node_at ps v)) i 0))
    unfolding known later
    kid_at n i is-n h =
        let kids = children w ps (node_at ps v) in
        ap (λ l. get_or l (suc (n + i)) []) (split w ps made (suc v))
        ∙ ap (λ l. get_or (l ++ later) (n + i) []) (concat_map_suc (children w ps) (rooted ps) v [] inside)
        ∙ get_or-append
        (known ++ kids)
        later
        []
        (n + i)
        (omega (arith, is-n, length-append known kids, length_children w ps (node_at ps v)))
        ∙ ap (λ j. get_or (known ++ kids) (j + i) []) is-n
        ∙ get_or-append-add known kids i []
        ∙ child_at w ps (node_at ps v) i h

-- ---- one node more
module _ (w : List ℕ) (ps : List (List ℕ)) (source v : ℕ) where
  -- the words of other nodes stay
  word_stays : (u x : ℕ) → u ≢ v → Word w ps source v u x → Word w ps source (suc v) u x
  word_stays u x h k =
      record {
        slot = k.slot;
        listed = k.listed;
        stands = k.stands;
        is =
            k.is
            ∙ ap
            (λ t.
            node_word
            k.slot
            (place (front (front (node_at ps u))) (rooted ps))
            (cond t (length (arcs_of ps (node_at ps u))) 0))
            tests;
      }
    where
      tests : ltb u v ≡ ltb u (suc v)
      tests =
          either
          (ltb u v)
          (λ t. (let l = ltb→lt u v t in lt-ltb u v l ∙ sym (lt-ltb u (suc v) (omega arith))))
          (λ t. (let l = nltb→le u v t in le-ltb u v l ∙ sym (le-ltb u (suc v) (omega (arith, h)))))

  -- that of node v gets its arcs
  word_taken : (x : ℕ) → Word w ps source v v x
      → Word w ps source (suc v) v (x + 8388608 * length (arcs_of ps (node_at ps v)))
  word_taken x k =
      record {
        slot = k.slot;
        listed = k.listed;
        stands = k.stands;
        is =
            ap (λ x. x + 8388608 * length (arcs_of ps (node_at ps v))) k.is
            ∙ rw (le-ltb v v (omega arith), lt-ltb v (suc v) (omega arith))
            (word_counted
            k.slot
            (place (front (front (node_at ps v))) (rooted ps))
            (length (arcs_of ps (node_at ps v))));
      }

  -- and that of a kid of v says so
  word_kid : (u k : ℕ) → k ∈ slots w → v < length (rooted ps) → v < u
      → node_at ps u ≡ changing (node_at ps v) (transfer_at w k) → Word w ps source (suc v) u (node_word k v 0)
  word_kid u k listed inside later e =
      let s = node_at ps v in
      let b = transfer_at w k in
      record {
        slot = k;
        listed = listed;
        stands = sym (ap (last_of source) e ∙ last_change s b source);
        is =
            sym
            (ap
            (λ t.
            node_word
            k
            (place (front (front (node_at ps u))) (rooted ps))
            (cond t (length (arcs_of ps (node_at ps u))) 0))
            (le-ltb u (suc v) later)
            ∙ ap (λ q. node_word k (place (front (front q)) (rooted ps)) 0) e
            ∙ ap (λ q. node_word k (place q (rooted ps)) 0) (before_change s b)
            ∙ ap (λ p. node_word k p 0) (place_at (rooted ps) (rooted_rising ps) v inside));
      }

module _
    (w : List ℕ)
    (ps : List (List ℕ))
    (made : Made w ps)
    (source : ℕ)
    (work targets : List ℕ)
    (n m v : ℕ)
    (g : Grown w ps source work targets n m v)
  where
    -- every node that has a word is a node
    pub grown_listed : (u : ℕ) → u ≤ n → u < length (rooted ps)
    grown_listed u h = omega (arith, reach w ps made v, g.node_count_lem)

    module _ (on : v ≤ n) where
      abbrev kids : List ℕ
      kids = kids_of w ps (node_at ps v)

      abbrev ends : List ℕ
      ends = arcs_of ps (node_at ps v)

      inside : v < length (rooted ps)
      inside = grown_listed v on

      pub next_nodes : n + length kids ≡ length (concat_map (children w ps) (take (suc v) (rooted ps)))
      next_nodes =
          omega (
            arith,
            ap length (concat_map_suc (children w ps) (rooted ps) v [] inside),
            length-append (concat_map (children w ps) (take v (rooted ps))) (children w ps (node_at ps v)),
            length_children w ps (node_at ps v),
            g.node_count_lem,
          )

      pub next_arcs : m + length ends ≡ length (concat_map (arcs_of ps) (take (suc v) (rooted ps)))
      next_arcs =
          omega (
            arith,
            ap length (concat_map_suc (arcs_of ps) (rooted ps) v [] inside),
            length-append (concat_map (arcs_of ps) (take v (rooted ps))) ends,
            g.arc_count_lem,
          )

      -- what does not fit here does not fit a store
      pub many_nodes : entries_most < n + length kids → TooMany ps
      many_nodes h = inl (omega (arith, next_nodes, reach w ps made (suc v), ap length (root_first ps)))

      pub many_arcs : entries_most < m + length ends → TooMany ps
      many_arcs h =
          let first = take (suc v) (rooted ps) in
          let rest = drop (suc v) (rooted ps) in
          inr
          (omega (
            arith,
            next_arcs,
            arcs_counted ps w made,
            ap (λ l. length (concat_map (arcs_of ps) l)) (take-append-drop (suc v) (rooted ps)),
            ap length (concat_map_append (arcs_of ps) first rest),
            length-append (concat_map (arcs_of ps) first) (concat_map (arcs_of ps) rest),
          ))

      module _ (fit : n + length kids ≤ entries_most) (fits : m + length ends ≤ entries_most) where
        abbrev kid_words : List ℕ
        kid_words = map (λ k. node_word k v 0) kids

        abbrev after : List ℕ
        after = set (put (suc n) kid_words work) v (get_or work v 0 + 8388608 * length ends)

        long_kids : length kid_words ≡ length kids
        long_kids = length-map kids (λ k. node_word k v 0)

        long_put : length (put (suc n) kid_words work) ≡ 16384
        long_put =
            length_put (suc n) kid_words work (omega (arith, long_kids, g.long_work, fit)) ∙ g.long_work

        room : suc n ≤ length work
        room = omega (arith, g.long_work, fit)

        this_word : Word w ps source (suc v) v (get_or after v 0)
        this_word =
            subst
            (Word w ps source (suc v) v)
            (sym
            (get_or-set_same
            (put (suc n) kid_words work)
            v
            (get_or work v 0 + 8388608 * length ends)
            0
            (omega (arith, long_put, on, fit))))
            (word_taken w ps source v (get_or work v 0) (g.words v on))

        other_word : (u : ℕ) → u ≢ v → get_or after u 0 ≡ get_or (put (suc n) kid_words work) u 0
        other_word u e =
            get_or-set_other (put (suc n) kid_words work) v u (get_or work v 0 + 8388608 * length ends) 0 e

        old_word : (u : ℕ) → u ≢ v → u ≤ n → Word w ps source (suc v) u (get_or after u 0)
        old_word u e h =
            subst
            (Word w ps source (suc v) u)
            (sym (other_word u e ∙ put_front (suc n) kid_words work room u (omega arith)))
            (word_stays w ps source v u (get_or work u 0) e (g.words u h))

        slot_listed : (i : ℕ) → i < length kids → get_or kids i 0 ∈ slots w
        unfolding kids_of
        slot_listed i h =
            (filter_out (λ k. has_kid ps (node_at ps v) (transfer_at w k)) (slots w) (get_d_in kids i 0 h)).0

        new_word : (i : ℕ) → i < length kids → Word w ps source (suc v) (suc n + i) (get_or after (suc n + i) 0)
        new_word i h =
            let place : suc n + i ≡ suc (n + i) = omega arith in
            subst
            (Word w ps source (suc v) (suc n + i))
            (sym
            (other_word (suc n + i) (λ e. omega arith)
            ∙ put_inside (suc n) kid_words work room i (omega (arith, long_kids))
            ∙ get_d_map (λ k. node_word k v 0) kids i 0 0 h))
            (word_kid
            w
            ps
            source
            v
            (suc n + i)
            (get_or kids i 0)
            (slot_listed i h)
            inside
            (omega arith)
            (ap (node_at ps) place ∙ kid_at w ps made v inside n i g.node_count_lem h))

        words_after_lem : (u : ℕ) → u ≤ n + length kids → Word w ps source (suc v) u (get_or after u 0)
        words_after_lem u h = elim (ℕ_discrete u v) [ yes e ↦ this e | no e ↦ other e ]
          where
            this : u ≡ v → Word w ps source (suc v) u (get_or after u 0)
            this e = subst (λ u. Word w ps source (suc v) u (get_or after u 0)) (sym e) this_word

            new : n < u → Word w ps source (suc v) u (get_or after u 0)
            new l =
                let e : suc n + (u - suc n) ≡ u = omega arith in
                subst
                (λ u. Word w ps source (suc v) u (get_or after u 0))
                e
                (new_word (u - suc n) (omega arith))

            other : u ≢ v → Word w ps source (suc v) u (get_or after u 0)
            other e = either (ltb n u) (λ t. new (ltb→lt n u t)) (λ t. old_word u e (nltb→le n u t))

        -- The node is taken: its kids have words, its arcs are counted and listed.
        pub grown_more : Grown w ps source after (put m ends targets) (n + length kids) (m + length ends) (v + 1)
        grown_more =
            subst
            (Grown w ps source after (put m ends targets) (n + length kids) (m + length ends))
            (sym (add-one v))
            (record {
              inside = omega (arith, on);
              node_count_lem = next_nodes;
              arc_count_lem = next_arcs;
              few_nodes = fit;
              few_arcs = fits;
              long_work =
                  length-set (put (suc n) kid_words work) v (get_or work v 0 + 8388608 * length ends) ∙ long_put;
              long_targets =
                  length_put m ends targets (omega (arith, g.long_targets, fits)) ∙ g.long_targets;
              words = words_after_lem;
              listed =
                  take_put_behind m ends targets (omega (arith, g.long_targets, fits))
                  ∙ ap (λ l. l ++ ends) g.listed
                  ∙ sym (concat_map_suc (arcs_of ps) (rooted ps) v [] inside);
            })

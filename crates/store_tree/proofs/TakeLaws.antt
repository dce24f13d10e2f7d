-- A node was taken, or it is shown that the store does not fit.
use mathlib.Core.Path.{◌≡◌, sym, ap, subst, ◌∙◌}
use mathlib.Core.Bool.{true, false, true≢false}
use mathlib.Core.List.{List, map}
use Prim.Native.Nat.{ℕ, suc, ◌+◌, ◌*◌, ◌≤◌, ◌<◌}
use native.Mathlib.Numerals.{add-one}
use native.Mathlib.Omega.{arith}
use lib.ListN.{length, get_or, set}
use Rattle.words.specs.Put.{put}
use Rattle.lists.specs.Lists.{◌∈◌}
use Rattle.lists.specs.Places.{get_d_in}
use Rattle.timetable.specs.Words.{is_timetable}
use Rattle.store_slots.specs.Slots.{slots}
use Rattle.store_slots.specs.SlotLaws.{slots_few, slot_small}
use Rattle.stores.specs.Words.{entries_most}
use Rattle.store_tree.specs.Tree.{arcs_of, kids_of, node_at, node_word, Grown, TooMany}
use Rattle.store_tree.specs.Held.{put_front}
use Rattle.store_tree.specs.Growth.{many_nodes, many_arcs, grown_more}
use Rattle.store_tree.specs.Says.{says_fresh}
use Rattle.store_tree.specs.Marks.{marks, marks_arcs, slot_marks, marks_kids, kid_words, kid_words_lem}
use Rattle.store_tree.specs.Taking.{Next, Takes, Taken}

grown_same : (words : List ℕ) (ps : List (List ℕ)) (source v : ℕ) (w w' t t' : List ℕ) (n n' m m' : ℕ) → w ≡ w' → t ≡ t'
    → n ≡ n' → m ≡ m' → Grown words ps source w t n m v → Grown words ps source w' t' n' m' v
grown_same words ps source v w w' t t' n n' m m' a b c d g =
    subst
    (λ m. Grown words ps source w' t' n' m v)
    d
    (subst
    (λ n. Grown words ps source w' t' n m v)
    c
    (subst (λ t. Grown words ps source w' t n m v) b (subst (λ w. Grown words ps source w t n m v) a g)))

module _
    (words list : List ℕ)
    (ps : List (List ℕ))
    (source : ℕ)
    (work targets : List ℕ)
    (n m v : ℕ)
    (arcs kids : List ℕ)
    (all : list ≡ slots words)
    (x : Next words ps source work targets n m v arcs kids)
  where
    -- ---- too many
    refuse : (w t : List ℕ) (a b : ℕ) → TooMany ps → Taken words ps source w t v (record { n = a; m = b; fits = false })
    refuse w t a b h = record { taken = λ e. absurd (true≢false (sym e)); refused = λ e. h }

    kids_marked : slot_marks kids list ≡ kids_of words ps (node_at ps v)
    kids_marked = ap (slot_marks kids) all ∙ marks_kids words ps (node_at ps v) kids x.kid_flags

    is_kids : (young : ℕ) → young ≡ length (slot_marks kids list) → young ≡ length (kids_of words ps (node_at ps v))
    is_kids young e = e ∙ ap length kids_marked

    is_arcs : (ends : ℕ) → ends ≡ length (marks arcs) → ends ≡ length (arcs_of ps (node_at ps v))
    is_arcs ends e = e ∙ ap length (marks_arcs ps (node_at ps v) arcs x.arc_flags)

    pub young_many : (w t : List ℕ) (a b young : ℕ) → young ≡ length (slot_marks kids list) → entries_most < n + young
        → Taken words ps source w t v (record { n = a; m = b; fits = false })
    young_many w t a b young e h =
        refuse
        w
        t
        a
        b
        (many_nodes words ps x.made source work targets n m v x.grown x.listed
        (omega (arith, h, is_kids young e)))

    pub ends_many : (w t : List ℕ) (a b ends : ℕ) → ends ≡ length (marks arcs) → entries_most < m + ends
        → Taken words ps source w t v (record { n = a; m = b; fits = false })
    ends_many w t a b ends e h =
        refuse
        w
        t
        a
        b
        (many_arcs words ps x.made source work targets n m v x.grown x.listed
        (omega (arith, h, is_arcs ends e)))

    -- ---- the word of v is as it was once the kids have theirs
    module _ (work' : List ℕ) (put-kids : work' ≡ put (n + 1) (kid_words v (slot_marks kids list)) work) where
      own_word : get_or work' v 0 ≡ get_or work v 0
      own_word =
          ap (λ l. get_or l v 0) put-kids
          ∙ put_front
          (n + 1)
          (kid_words v (slot_marks kids list))
          work
          (omega (arith, x.grown.long_work, x.grown.few_nodes))
          v
          (omega (arith, x.listed))

      pub own_low : get_or work' v 0 < 8388608
      own_low =
          subst
          (λ y. y < 8388608)
          (sym own_word)
          (says_fresh words ps x.made source work targets n m v x.grown v x.listed (omega arith))

      -- ---- taken
      module _ (targets' : List ℕ) (put-targets : targets' ≡ put m (marks arcs) targets) (young ends : ℕ)
          (is-young : young ≡ length (slot_marks kids list)) (is_ends : ends ≡ length (marks arcs))
          (fit : n + young ≤ entries_most) (fits : m + ends ≤ entries_most) where
        abbrev ks : List ℕ
        ks = kids_of words ps (node_at ps v)

        abbrev as' : List ℕ
        as' = arcs_of ps (node_at ps v)

        as_put : work' ≡ put (suc n) (map (λ k. node_word k v 0) ks) work
        as_put =
            put-kids
            ∙ ap (λ i. put i (kid_words v (slot_marks kids list)) work) (add-one n)
            ∙ ap (λ l. put (suc n) (kid_words v l) work) kids_marked
            ∙ ap (λ l. put (suc n) l work) (kid_words_lem v ks)

        as_work : set (put (suc n) (map (λ k. node_word k v 0) ks) work) v (get_or work v 0 + 8388608 * length as')
            ≡ set work' v (get_or work' v 0 + 8388608 * ends)
        as_work =
            λ i.
            set (sym as_put i) v (sym own_word i + 8388608 * sym (is_arcs ends is_ends) i)

        as_targets : put m as' targets ≡ targets'
        as_targets =
            sym (put-targets ∙ ap (λ l. put m l targets) (marks_arcs ps (node_at ps v) arcs x.arc_flags))

        now_grown : Grown words ps source (set work' v (get_or work' v 0 + 8388608 * ends)) targets' (n + young)
            (m + ends)
            (v + 1)
        now_grown =
            let y = is_kids young is-young in
            let z = is_arcs ends is_ends in
            grown_same
            words
            ps
            source
            (v + 1)
            (set (put (suc n) (map (λ k. node_word k v 0) ks) work) v (get_or work v 0 + 8388608 * length as'))
            (set work' v (get_or work' v 0 + 8388608 * ends))
            (put m as' targets)
            targets'
            (n + length ks)
            (n + young)
            (m + length as')
            (m + ends)
            as_work
            as_targets
            (omega (arith, y))
            (omega (arith, z))
            (grown_more words ps x.made source work targets n m v x.grown x.listed
            (omega (arith, y, fit)) (omega (arith, z, fits)))

        pub all_taken : Taken words ps source (set work' v (get_or work' v 0 + 8388608 * ends)) targets' v
            (record { n = n + young; m = m + ends; fits = true })
        all_taken = record { taken = λ e. now_grown; refused = λ e. absurd (true≢false e) }

-- ---- what the calls ask for, of some tree
module _
    (list work targets : List ℕ)
    (n m v : ℕ)
    (arcs kids : List ℕ)
    (t : Takes list work targets n m v arcs kids)
  where
    pub sum_fits : (work' : List ℕ) → work' ≡ put (n + 1) (kid_words v (slot_marks kids list)) work
        → (ends : ℕ) → ends ≤ 64 → get_or work' v 0 + 8388608 * ends < 4294967296
    sum_fits work' e ends h =
        omega (
          arith,
          h,
          own_low t.timetable list t.sequences t.source work targets n m v arcs kids t.all t.next work'
              e,
        )

    spelled : is_timetable t.timetable ≡ true
    spelled = t.next.made.timetable

    pub list_few : length list ≤ 320
    list_few = omega (arith, ap length t.all, slots_few t.timetable spelled)

    pub list_near : (j : ℕ) → j < length list → get_or list j 0 < 320
    list_near j h =
        slot_small
        t.timetable
        spelled
        (get_or list j 0)
        (subst (λ l. get_or list j 0 ∈ l) t.all (get_d_in list j 0 h))

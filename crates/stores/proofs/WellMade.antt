-- Theorem 4, second half: the words of sequences of listed stations, none of more than 64 rides, are well made where n
-- and m are at most 16,383. Each parent is below its node by the order of the nodes.
use Rattle.std.specs.Prelude.{◌≡◌, refl, not, List, [], ◌∷◌, ◌++◌, map, ℕ, suc, ◌+◌, ◌*◌, ◌≤◌, ◌<◌, T, length, get_or}
use Rattle.std.proofs.Common.{subst, ◌∙◌, append_assoc, arith, ltb→lt, length-append}
use mathlib.Core.List.Memᴰ.{head as here}
use mathlib.Core.List.Memᴰ.{tail as there}
use Rattle.std.proofs.Math.Dec.{not_T}
use Rattle.lists.specs.Lists.{◌∈◌, any, before, Rising}
use Rattle.lists.specs.Tests.{T_both, writes}
use Rattle.lists.specs.Members.{any_out, concat_map_out}
use Rattle.lists.specs.Pigeonhole.{Within}
use Rattle.stores.specs.Words.{beginnings, front, final, nodes, place, node_entry, arcs, encode, node_threes}
use Rattle.stores.specs.Words.{arc_pairs, readable, nodes_made, arcs_made, arcs_rise, rides_most, long, entries_most}
use Rattle.stores.specs.Words.{well_made}
use Rattle.stores.specs.Sequences.{Odd, odd_full, begin_within, final_within, alighted_within, place_append}
use Rattle.stores.specs.Sequences.{place_bound}
use Rattle.stores.specs.Nodes.{nodes_made_lem, node_at, node_out, front_before, front_known}
use Rattle.stores.specs.RoundTrip.{node_words, arc_words_lem, arc_out, arcs_rising, encode_length, read_back}

arcs_rise_lem : (l : List (List ℕ)) → Rising l → T (arcs_rise l)
arcs_rise_lem [] h = tt
arcs_rise_lem (x ∷ []) h = tt
arcs_rise_lem (x ∷ y ∷ l) h = T_both (before x y) (arcs_rise (y ∷ l)) (h.0 y (here refl)) (arcs_rise_lem (y ∷ l) h.1)

module _ (k : ℕ) (ps : List (List ℕ)) (odd : (p : List ℕ) → p ∈ ps → Odd p) where
  module _ (within : (p : List ℕ) → p ∈ ps → Within k p) where
    node_within : (q : List ℕ) → q ∈ nodes ps → Within k q
    node_within q m =
        let r = concat_map_out beginnings ps (node_out ps q m) in
        begin_within k q r.0 r.2 (within r.0 r.1)

    -- the nodes after those of `pre`
    nodes_good : (pre suf : List (List ℕ)) → pre ++ suf ≡ nodes ps
        → T (nodes_made k (suc (length pre)) (map (node_entry (nodes ps)) suf))
    nodes_good pre [] e = tt
    nodes_good pre (q ∷ suf) e = go (nodes_good (pre ++ (q ∷ [])) suf (append_assoc pre (q ∷ []) suf ∙ e))
      where
        q_node : q ∈ nodes ps
        q_node = node_at (nodes ps) (nodes_made_lem ps) pre q suf e

        boarded : (1 ≤ final q) × (final q ≤ k)
        boarded = final_within k q ((nodes_made_lem ps).nonempty q q_node) (node_within q q_node)

        alighted : (1 ≤ final (front q)) × (final (front q) ≤ k)
        alighted =
            alighted_within k q ((nodes_made_lem ps).nonempty q q_node) ((nodes_made_lem ps).even q q_node)
            (node_within q q_node)

        parent : place (front (front q)) ([] ∷ nodes ps) < suc (length pre)
        parent =
            let m = front_before (nodes ps) (nodes_made_lem ps) pre q suf e in
            let before = front (front q) in
            subst
            (λ l. place before ([] ∷ l) < suc (length pre))
            e
            (rw (place_append before ([] ∷ pre) (q ∷ suf) m) (place_bound before ([] ∷ pre) m))

        one_more : length (pre ++ (q ∷ [])) ≡ suc (length pre)
        one_more = omega (arith, length-append pre (q ∷ []))

        go : T (nodes_made k (suc (length (pre ++ (q ∷ [])))) (map (node_entry (nodes ps)) suf))
            → T (nodes_made k (suc (length pre)) (map (node_entry (nodes ps)) (q ∷ suf)))
        go rest =
            let a = alighted in
            let b = boarded in
            let c = parent in
            let d = rw one_more at rest in
            search writes

    record Fits (z : List ℕ) : Type 0 where
      first : 1 ≤ get_or z 0 0
      last : get_or z 0 0 ≤ k
      known : get_or z 1 0 ≤ length (nodes ps)

    arcs_good : (l : List (List ℕ)) → ((z : List ℕ) → z ∈ l → Fits z) → T (arcs_made k (length (nodes ps)) l)
    arcs_good [] h = tt
    arcs_good (z ∷ l) h =
        let f = h z (here refl) in
        let rest = arcs_good l (λ y m. h y (there m)) in
        search writes

    arc_fits : (z : List ℕ) → z ∈ arcs ps → Fits z
    arc_fits z m =
        let r = arc_out ps z m in
        let p = r.0 in
        let listed = final_within k p (odd_full p (odd p r.1)) (within p r.1) in
        let known = place_bound (front p) ([] ∷ nodes ps) (front_known ps p r.1 (odd p r.1)) in
        subst Fits r.2 (record { first = listed.0; last = listed.1; known = omega arith })

    module _ (short : (p : List ℕ) → p ∈ ps → suc (length p) ≤ 2 * rides_most) where
      module _ (post : List ℕ) (h : length (nodes ps) ≤ entries_most) (g : length (arcs ps) ≤ entries_most) where
        abbrev lent : List ℕ
        lent = encode ps ++ post

        none_long : T (not (any long (readable lent)))
        none_long = not_T (any long (readable lent)) clash
          where
            clash : T (any long (readable lent)) → ⊥
            clash t =
                let r = any_out long (readable lent) t in
                let s = short r.0 ((read_back ps odd post r.0).0 r.1) in
                omega (arith, ltb→lt (2 * rides_most) (suc (length r.0)) r.2)

        -- "all words present"
        present : 2 + 3 * length (nodes ps) + 2 * length (arcs ps) ≤ length lent
        present = omega (arith, length-append (encode ps) post, encode_length ps)

        nodes_made_well : T (nodes_made k 1 (node_threes lent))
        nodes_made_well = rw (node_words ps post) (nodes_good [] (nodes ps) refl)

        arcs_made_well : T (arcs_made k (length (nodes ps)) (arc_pairs lent))
        arcs_made_well = rw (arc_words_lem ps post) (arcs_good (arcs ps) arc_fits)

        arcs_in_order : T (arcs_rise (arc_pairs lent))
        arcs_in_order = rw (arc_words_lem ps post) (arcs_rise_lem (arcs ps) (arcs_rising ps))

        pub well_made_lem : T (well_made k lent)
        unfolding well_made encode
        well_made_lem = search (writes, present, nodes_made_well, arcs_made_well, arcs_in_order, none_long) depth 9

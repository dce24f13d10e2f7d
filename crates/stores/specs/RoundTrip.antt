-- Theorem 4, first half: the words of a store read back to exactly the stored sequences, whatever words stand behind
-- them. Reading a node's entry finds its parent among the nodes already read, since the parent stands before it.
use Rattle.std.specs.Prelude.{◌≡◌, refl, ◌≢◌, ◌↔◌, ℕ, suc, ◌+◌, ◌*◌, get_or, drop}
use Rattle.std.proofs.Common.{sym, subst, ◌∙◌, mul-suc, drop_at}
use Rattle.std.proofs.Math.Path.{ap}
use mathlib.Core.List.Memᴰ.{head as here}
use mathlib.Core.List.{List, [], ◌∷◌, ◌++◌, map, append_assoc, append-nil}
use mathlib.Core.List.Memᴰ
use mathlib.Core.List.Memᴰ.{tail as there}
use native.Mathlib.Omega.{arith}
use Rattle.std.proofs.Math.ListN.{length, length-append, length-map}
use Rattle.lists.specs.Lists.{◌∈◌, Rising}
use Rattle.lists.specs.Sorting.{sort_in, sort_out, sort_rising}
use Rattle.stores.specs.Words.{front, final, nodes, place, entry, node_entry, arcs, flat, encode, pairs, threes}
use Rattle.stores.specs.Words.{node_threes, arc_pairs, follow_node, follow, chains, readable}
use Rattle.stores.specs.Sequences.{Odd, Even, odd_full, rejoin, rejoin_two, place_get, place_append}
use Rattle.stores.specs.Nodes.{Nodes, node_at, front_before, front_known, nodes_made_lem}

-- the place of what is known is that in the whole list
same_place : (known post ns : List (List ℕ)) (q : List ℕ) → known ++ post ≡ ns → q ∈ [] ∷ known
    → get_or ([] ∷ known) (place q ([] ∷ ns)) [] ≡ q
same_place known post ns q e m =
    ap (λ l. get_or ([] ∷ known) (place q ([] ∷ l)) []) (sym e)
    ∙ ap (λ i. get_or ([] ∷ known) i []) (place_append q ([] ∷ known) post m)
    ∙ place_get q ([] ∷ known) m

-- an arc's entry leads back to its sequence, once what is before it is known
follow_entry : (known post ns : List (List ℕ)) (q : List ℕ) → known ++ post ≡ ns → q ≢ [] → front q ∈ [] ∷ known
    → follow ([] ∷ known) (entry ns q) ≡ q
follow_entry known post ns [] e h m = absurd (h refl)
follow_entry known post ns (x ∷ q) e h m =
    ap (λ l. l ++ (final (x ∷ q) ∷ [])) (same_place known post ns (front (x ∷ q)) e m) ∙ rejoin x q

-- and so does a node's
follow_node_lem : (known post ns : List (List ℕ)) (q : List ℕ) → known ++ post ≡ ns → q ≢ [] → Even q
    → front (front q) ∈ [] ∷ known → follow_node ([] ∷ known) (node_entry ns q) ≡ q
follow_node_lem known post ns [] e h o m = absurd (h refl)
follow_node_lem known post ns (x ∷ []) e h o m = absurd o
follow_node_lem known post ns (x ∷ y ∷ q) e h o m =
    ap
    (λ l. l ++ (final (front (x ∷ y ∷ q)) ∷ final (x ∷ y ∷ q) ∷ []))
    (same_place known post ns (front (front (x ∷ y ∷ q))) e m)
    ∙ rejoin_two x y q

module _ (ns : List (List ℕ)) (n : Nodes ns) where
  chains_nodes : (pre suf : List (List ℕ)) → pre ++ suf ≡ ns → chains ([] ∷ pre) (map (node_entry ns) suf) ≡ [] ∷ ns
  chains_nodes pre [] e = ap (λ l. [] ∷ l) (sym (append-nil pre) ∙ e)
  chains_nodes pre (q ∷ suf) e =
      ap (λ z. chains ([] ∷ (pre ++ (z ∷ []))) (map (node_entry ns) suf)) q_read
      ∙ chains_nodes (pre ++ (q ∷ [])) suf (append_assoc pre (q ∷ []) suf ∙ e)
    where
      q_read : follow_node ([] ∷ pre) (node_entry ns q) ≡ q
      q_read =
          let listed = node_at ns n pre q suf e in
          follow_node_lem
          pre
          (q ∷ suf)
          ns
          q
          e
          (n.nonempty q listed)
          (n.even q listed)
          (front_before ns n pre q suf e)

-- pairs of words, and threes
abbrev pub Paired : List (List ℕ) → Type 0
Paired l = (z : List ℕ) → z ∈ l → (x : ℕ) × (y : ℕ) × (z ≡ x ∷ y ∷ [])

abbrev pub InThrees : List (List ℕ) → Type 0
InThrees l = (z : List ℕ) → z ∈ l → (x : ℕ) × (y : ℕ) × (v : ℕ) × (z ≡ x ∷ y ∷ v ∷ [])

pub entries_threes : (ns l : List (List ℕ)) → InThrees (map (node_entry ns) l)
entries_threes ns l z m =
    let r = Memᴰ.of_map (node_entry ns) l m in
    (final (front r.0), final r.0, place (front (front r.0)) ([] ∷ ns), sym r.2)

pairs_flat : (l : List (List ℕ)) → Paired l → (post : List ℕ) → pairs (length l) (flat l ++ post) ≡ l
pairs_flat [] h post = refl
pairs_flat (z ∷ l) h post =
    let s = h z (here refl) in
    subst
    (λ v. pairs (suc (length l)) (flat (v ∷ l) ++ post) ≡ v ∷ l)
    (sym s.2)
    (ap (λ m. (s.0 ∷ s.1 ∷ []) ∷ m) (pairs_flat l (λ y m. h y (there m)) post))

threes_flat : (l : List (List ℕ)) → InThrees l → (post : List ℕ) → threes (length l) (flat l ++ post) ≡ l
threes_flat [] h post = refl
threes_flat (z ∷ l) h post =
    let s = h z (here refl) in
    subst
    (λ v. threes (suc (length l)) (flat (v ∷ l) ++ post) ≡ v ∷ l)
    (sym s.3)
    (ap (λ m. (s.0 ∷ s.1 ∷ s.2 ∷ []) ∷ m) (threes_flat l (λ y m. h y (there m)) post))

-- as many words each
flat_length : (k : ℕ) (l : List (List ℕ)) → ((z : List ℕ) → z ∈ l → length z ≡ k) → length (flat l) ≡ k * length l
flat_length k [] h = omega arith
flat_length k (z ∷ l) h =
    omega (
      arith,
      length-append z (flat l),
      h z (here refl),
      flat_length k l (λ y m. h y (there m)),
      mul-suc k (length l),
    )

pairs_length : (l : List (List ℕ)) → Paired l → length (flat l) ≡ 2 * length l
pairs_length l h = flat_length 2 l (λ z m. ap length (h z m).2)

threes_length : (l : List (List ℕ)) → InThrees l → length (flat l) ≡ 3 * length l
threes_length l h = flat_length 3 l (λ z m. ap length (h z m).3)

module _ (l m : List (List ℕ)) (p : InThrees l) (q : Paired m) (post : List ℕ) where
  abbrev told : List ℕ
  told = length l ∷ length m ∷ (flat l ++ flat m ++ post)

  nodes_read : node_threes told ≡ l
  nodes_read = ap (threes (length l)) (append_assoc (flat l) (flat m) post) ∙ threes_flat l p (flat m ++ post)

  arcs_read : arc_pairs told ≡ m
  arcs_read =
      ap (λ v. pairs (length m) (drop (3 * length l) v)) (append_assoc (flat l) (flat m) post)
      ∙ ap (pairs (length m)) (drop_at (flat l) (flat m ++ post) (3 * length l) (threes_length l p))
      ∙ pairs_flat m q post

module _ (ps : List (List ℕ)) where
  abbrev pub node_entries : List (List ℕ)
  node_entries = map (node_entry (nodes ps)) (nodes ps)

  pub arc_out : (z : List ℕ) → z ∈ arcs ps → (p : List ℕ) × (p ∈ ps) × (entry (nodes ps) p ≡ z)
  unfolding arcs
  arc_out z m = Memᴰ.of_map (entry (nodes ps)) ps (sort_out (map (entry (nodes ps)) ps) m)

  pub arc_in : (p : List ℕ) → p ∈ ps → entry (nodes ps) p ∈ arcs ps
  unfolding arcs
  arc_in p m = sort_in (Memᴰ.map (entry (nodes ps)) m)

  pub arcs_rising : Rising (arcs ps)
  unfolding arcs
  arcs_rising = sort_rising (map (entry (nodes ps)) ps)

  pub arcs_paired : Paired (arcs ps)
  arcs_paired z m =
      let r = arc_out z m in
      (final r.0, place (front r.0) ([] ∷ nodes ps), sym r.2)

  -- the words, with the number of nodes as the number of their entries
  pub words : (post : List ℕ)
      → encode ps ++ post ≡ length node_entries ∷ length (arcs ps) ∷ (flat node_entries ++ flat (arcs ps) ++ post)
  unfolding encode
  words post =
      ap
      (λ k. k ∷ length (arcs ps) ∷ (flat node_entries ++ flat (arcs ps) ++ post))
      (sym (length-map (nodes ps) (node_entry (nodes ps))))

  pub node_words : (post : List ℕ) → node_threes (encode ps ++ post) ≡ node_entries
  node_words post =
      ap node_threes (words post)
      ∙ nodes_read node_entries (arcs ps) (entries_threes (nodes ps) (nodes ps)) arcs_paired post

  pub arc_words_lem : (post : List ℕ) → arc_pairs (encode ps ++ post) ≡ arcs ps
  arc_words_lem post =
      ap arc_pairs (words post)
      ∙ arcs_read node_entries (arcs ps) (entries_threes (nodes ps) (nodes ps)) arcs_paired post

  -- "A store has 2 + 3n + 2m words"
  pub encode_length : length (encode ps) ≡ 2 + 3 * length (nodes ps) + 2 * length (arcs ps)
  unfolding encode
  encode_length =
      let a = length-append (flat node_entries) (flat (arcs ps)) in
      let b = threes_length node_entries (entries_threes (nodes ps) (nodes ps)) in
      let c = pairs_length (arcs ps) arcs_paired in
      let d = length-map (nodes ps) (node_entry (nodes ps)) in
      omega arith

  read_words_lem : (post : List ℕ) → readable (encode ps ++ post) ≡ map (follow ([] ∷ nodes ps)) (arcs ps)
  unfolding readable
  read_words_lem post =
      (λ i. map (follow (chains ([] ∷ []) (node_words post i))) (arc_words_lem post i))
      ∙ ap (λ k. map (follow k) (arcs ps)) (chains_nodes (nodes ps) (nodes_made_lem ps) [] (nodes ps) refl)

  module _ (odd : (p : List ℕ) → p ∈ ps → Odd p) (post : List ℕ) where
    follow_arc : (p : List ℕ) → p ∈ ps → follow ([] ∷ nodes ps) (entry (nodes ps) p) ≡ p
    follow_arc p m =
        follow_entry
        (nodes ps)
        []
        (nodes ps)
        p
        (append-nil (nodes ps))
        (odd_full p (odd p m))
        (front_known ps p m (odd p m))

    read_out : (p : List ℕ) → p ∈ readable (encode ps ++ post) → p ∈ ps
    read_out p m =
        let r = Memᴰ.of_map (follow ([] ∷ nodes ps)) (arcs ps) (rw (read_words_lem post) at m) in
        let k = arc_out r.0 r.1 in
        Memᴰ.cast
        (sym r.2 ∙ ap (follow ([] ∷ nodes ps)) (sym k.2) ∙ follow_arc k.0 k.1)
        k.1

    read_in : (p : List ℕ) → p ∈ ps → p ∈ readable (encode ps ++ post)
    read_in p m =
        rw
        (read_words_lem post)
        (Memᴰ.cast (sym (follow_arc p m)) (Memᴰ.map (follow ([] ∷ nodes ps)) (arc_in p m)))

    pub read_back : (p : List ℕ) → p ∈ readable (encode ps ++ post) ↔ p ∈ ps
    read_back p = (read_out p, read_in p)

-- Where a timetable has no walk, its stores are those of document 01, which have "per prefix node: station, parent",
-- with that station twice: as alighted at and as boarded at. Here are the sequences and the words of document 01, for
-- that sentence alone. For a reader.
use Rattle.std.specs.Prelude.{ℕ, zero, suc, get_or, drop}
use mathlib.Core.List.{List, [], ◌∷◌, ◌++◌, map}
use Rattle.std.proofs.Math.ListN.{length}
use Rattle.lists.specs.Lists.{concat_map, sort, tail}
use Rattle.connections.specs.Connections.{Net, stations}
use Rattle.connections.specs.WithoutWalks.{changed_stations}
use Rattle.stores.specs.Stored.{minutes, targets, optimals, stored}
use Rattle.stores.specs.Words.{keyed, nodes, entry, flat}

-- ---- document 01
-- "the stations of the changes in order, then B", of the optimal connections
unfoldable pub former_stations : Net → (a : ℕ) (minutes targets : List ℕ) → List (List ℕ)
former_stations n a ts bs = concat_map (λ t. concat_map (λ b. map changed_stations (optimals n a t b)) bs) ts

-- "All patterns of optimal connections are stored, for all minutes 0 to 2,879 and all targets other than the source."
unfoldable pub former_stored : Net → (a : ℕ) → List (List ℕ)
former_stored n a = sort (former_stations n a minutes (targets n a))

-- "A prefix node is a stored pattern without its target, or a shorter beginning of one, of at least two stations"
abbrev pub former_beginnings : List ℕ → List (List ℕ)
former_beginnings [] = []
former_beginnings (x ∷ []) = []
former_beginnings (x ∷ y ∷ l) = (x ∷ []) ∷ map (λ q. x ∷ q) (former_beginnings (y ∷ l))

-- "Shorter ones come first, then smaller station sequence."
unfoldable pub former_nodes : List (List ℕ) → List (List ℕ)
former_nodes ps = map tail (sort (map keyed (concat_map former_beginnings ps)))

-- "Arcs rise by target, then predecessor."
unfoldable pub former_arcs : List (List ℕ) → List (List ℕ)
former_arcs ps = let ns = former_nodes ps in sort (map (entry ns) ps)

-- "Then per prefix node: station, parent. Then per arc: target station, predecessor."
unfoldable pub former_encode : List (List ℕ) → List ℕ
former_encode ps =
    let ns = former_nodes ps in
    let as' = former_arcs ps in
    length ns ∷ length as' ∷ (flat (map (entry ns) ns) ++ flat as')

unfoldable pub former_words : Net → (a : ℕ) → List ℕ
former_words n a = former_encode (former_stored n a)

-- ---- document 02
-- the words of k nodes, each with its station twice, and then the words behind them
unfoldable pub named_twice : (k : ℕ) → List ℕ → List ℕ
named_twice zero l = l
named_twice (suc k) l = get_or l 0 0 ∷ get_or l 0 0 ∷ get_or l 1 0 ∷ named_twice k (drop 2 l)

-- a store with the station of each node twice
unfoldable pub doubled_store : List ℕ → List ℕ
doubled_store w = get_or w 0 0 ∷ get_or w 1 0 ∷ named_twice (get_or w 0 0) (drop 2 w)

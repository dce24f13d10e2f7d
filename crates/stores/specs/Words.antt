-- The words of a store, what is read from words, and which words are well made. Document 01: "Word 0 is n, the number
-- of prefix nodes; word 1 is m, the number of arcs. Then per prefix node: station, parent. Then per arc: target
-- station, predecessor. Parent and predecessor are 0 for the root (the source) or a prefix node's number from 1."
-- Document 02, One: "prefix nodes hold both (alighted, boarded, parent, so a store has 2 + 3n + 2m words ..)". A
-- sequence names for each change the station alighted at and the one boarded at, then the target.
use Rattle.std.specs.Prelude.{Bool, true, false, not, ◌&&◌, List, [], ◌∷◌, ◌++◌, map, ℕ, zero, suc, ◌+◌, ◌*◌, leb, ltb}
use Rattle.std.specs.Prelude.{length, get_or, drop}
use Rattle.lists.specs.Lists.{filter, any, concat_map, before, same, sort, tail}
use Rattle.connections.specs.Connections.{Net, Connection, stations}
use Rattle.connections.specs.Planner.{planner_list, rows_of}
use Rattle.stores.specs.Stored.{stored}

-- "A prefix node is a stored pattern without its target, or a shorter beginning of one, of at least two stations": the
-- beginnings of a sequence that end with a change
abbrev pub beginnings : List ℕ → List (List ℕ)
beginnings [] = []
beginnings (x ∷ []) = []
beginnings (x ∷ y ∷ l) = (x ∷ y ∷ []) ∷ map (λ q. x ∷ y ∷ q) (beginnings l)

-- a sequence without its last station, and that station
abbrev pub front : List ℕ → List ℕ
front [] = []
front (x ∷ []) = []
front (x ∷ y ∷ l) = x ∷ front (y ∷ l)

abbrev pub final : List ℕ → ℕ
final [] = 0
final (x ∷ []) = x
final (x ∷ y ∷ l) = final (y ∷ l)

abbrev pub keyed : List ℕ → List ℕ
keyed sequence = length sequence ∷ sequence

-- "Shorter ones come first, then smaller station sequence."
unfoldable pub nodes : List (List ℕ) → List (List ℕ)
nodes sequences = map tail (sort (map keyed (concat_map beginnings sequences)))

abbrev pub count : Bool → ℕ → ℕ
count true k = 0
count false k = suc k

-- the place of a sequence in the list, from 0; the list's length if it is not there
abbrev pub place : List ℕ → List (List ℕ) → ℕ
place sequence [] = 0
place sequence (first ∷ rest) = count (same sequence first) (place sequence rest)

-- an arc: the target, then the number of what is before it, where the root is 0
abbrev pub entry : (nodes : List (List ℕ)) → List ℕ → List ℕ
entry known sequence = final sequence ∷ place (front sequence) ([] ∷ known) ∷ []

-- a node: the stations alighted and boarded at last, then the number of what is before them
abbrev pub node_entry : (nodes : List (List ℕ)) → List ℕ → List ℕ
node_entry known sequence =
    final (front sequence) ∷ final sequence ∷ place (front (front sequence)) ([] ∷ known) ∷ []

-- "Arcs rise by target, then predecessor."
unfoldable pub arcs : List (List ℕ) → List (List ℕ)
arcs sequences = let known = nodes sequences in sort (map (entry known) sequences)

abbrev pub flat : List (List ℕ) → List ℕ
flat l = concat_map (λ x. x) l

unfoldable pub encode : List (List ℕ) → List ℕ
encode sequences =
    let known = nodes sequences in
    let ends = arcs sequences in
    length known ∷ length ends ∷ (flat (map (node_entry known) known) ++ flat ends)

-- the words that a store call writes
unfoldable pub store_words : Net → (source : ℕ) → List ℕ
store_words n source = encode (stored n source)

-- the first so many pairs of words
abbrev pub pairs : ℕ → List ℕ → List (List ℕ)
pairs zero words = []
pairs (suc rest) words = (get_or words 0 0 ∷ get_or words 1 0 ∷ []) ∷ pairs rest (drop 2 words)

-- the first so many threes of words
abbrev pub threes : ℕ → List ℕ → List (List ℕ)
threes zero words = []
threes (suc rest) words =
    (get_or words 0 0 ∷ get_or words 1 0 ∷ get_or words 2 0 ∷ []) ∷ threes rest (drop 3 words)

abbrev pub node_threes : (store : List ℕ) → List (List ℕ)
node_threes store = threes (get_or store 0 0) (drop 2 store)

abbrev pub arc_pairs : (store : List ℕ) → List (List ℕ)
arc_pairs store = pairs (get_or store 1 0) (drop (3 * get_or store 0 0) (drop 2 store))

-- the sequence of a node, given the sequences of the nodes known so far, by number
abbrev pub follow_node : (known : List (List ℕ)) → List ℕ → List ℕ
follow_node known three = get_or known (get_or three 2 0) [] ++ (get_or three 0 0 ∷ get_or three 1 0 ∷ [])

-- the sequences of the nodes, by number: those known, then those of the threes that are left
abbrev pub chains : (known threes : List (List ℕ)) → List (List ℕ)
chains known [] = known
chains known (three ∷ rest) = chains (known ++ (follow_node known three ∷ [])) rest

-- the sequence of an arc, given those of the nodes
abbrev pub follow : (known : List (List ℕ)) → List ℕ → List ℕ
follow known pair = get_or known (get_or pair 1 0) [] ++ (get_or pair 0 0 ∷ [])

-- "A pattern is read from the arc back through the parents to the root."
unfoldable pub readable : (store : List ℕ) → List (List ℕ)
readable store = let known = chains ([] ∷ []) (node_threes store) in map (follow known) (arc_pairs store)

-- "stations listed", of so many stations
abbrev pub is_station : (count station : ℕ) → Bool
is_station count station = leb 1 station && leb station count

-- "stations listed, parent below the node's own number", of so many stations, where the first three is this node
abbrev pub nodes_made : (count node : ℕ) → List (List ℕ) → Bool
nodes_made count node [] = true
nodes_made count node (three ∷ rest) =
    is_station count (get_or three 0 0)
    && is_station count (get_or three 1 0)
    && ltb (get_or three 2 0) node
    && nodes_made count (suc node) rest

-- "stations listed, [..] predecessor at most n", of so many stations and n nodes
abbrev pub arcs_made : (count n : ℕ) → List (List ℕ) → Bool
arcs_made count n [] = true
arcs_made count n (pair ∷ rest) = is_station count (get_or pair 0 0) && leb (get_or pair 1 0) n && arcs_made count n
    rest

-- "arcs strictly rising"
abbrev pub arcs_rise : List (List ℕ) → Bool
arcs_rise [] = true
arcs_rise (pair ∷ []) = true
arcs_rise (pair ∷ next ∷ rest) = before pair next && arcs_rise (next ∷ rest)

-- document 02, One: "a pattern has at most 64 rides"
abbrev pub rides_most : ℕ
rides_most = 64

-- with its source a sequence has one station more, and each ride two: where it boards and where it alights
abbrev pub long : List ℕ → Bool
long sequence = ltb (2 * rides_most) (suc (length sequence))

abbrev pub entries_most : ℕ
entries_most = 16383

-- Question 13, for so many stations: "all words present, n and m at most 16,383, stations listed, parent below the
-- node's own number, predecessor at most n, arcs strictly rising", and "a pattern has at most 64 rides". Words past
-- them are not judged.
unfoldable pub well_made : (count : ℕ) (store : List ℕ) → Bool
well_made count store =
    leb (2 + 3 * get_or store 0 0 + 2 * get_or store 1 0) (length store)
    && leb (get_or store 0 0) entries_most
    && leb (get_or store 1 0) entries_most
    && nodes_made count 1 (node_threes store)
    && arcs_made count (get_or store 0 0) (arc_pairs store)
    && arcs_rise (arc_pairs store)
    && not (any long (readable store))

-- the connection's pattern is among these sequences
abbrev pub holds : List (List ℕ) → Connection → Bool
holds sequences connection = any (same (stations connection)) sequences

-- "the list keeps the connections whose pattern can be read from the words lent, with A as the root"
unfoldable pub kept_list : Net → (store : List ℕ) (from minute to : ℕ) → List Connection
kept_list n store from minute to =
    let sequences = readable store in filter (holds sequences) (planner_list n from minute to)

-- the rows of a query from a store
unfoldable pub answer : Net → (store : List ℕ) (from minute to : ℕ) → List (List ℕ)
answer n store from minute to = rows_of minute (kept_list n store from minute to)

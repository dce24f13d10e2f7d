-- The tree of a set of sequences, and how much of it a working space holds while it grows. The root is the empty
-- sequence; a node has an arc to each station that makes it a sequence of the set, and a kid for each change that makes
-- it a node. A change is told by its slot. Nodes are taken in the order of their numbers, and the kids of each get the
-- next numbers, in the order of the slots: by the station alighted at, then the one boarded at. The reader needs this
-- file and Taking: Numbering shows that these are the numbers of the store's nodes, and Growth what taking a node does.
use Rattle.std.specs.Prelude.{◌≡◌, Bool, true, cond, ◌⊎◌, List, [], ◌∷◌, ◌++◌, map, ℕ, suc, ◌+◌, ◌*◌, ◌/◌, ◌%◌, ◌≤◌}
use Rattle.std.specs.Prelude.{◌<◌, T, ltb, length, get_or, take}
use Rattle.timetable.specs.Timetable.{stations_most}
use Rattle.timetable.specs.Words.{station_count, is_timetable}
use Rattle.lists.specs.Lists.{◌∈◌, filter, any, concat_map, range, same}
use Rattle.lists.specs.Pigeonhole.{Within}
use Rattle.connections.specs.Connections.{Transfer}
use Rattle.stores.specs.Words.{beginnings, front, final, nodes, place, arcs, entries_most}
use Rattle.stores.specs.Sequences.{Odd}
use Rattle.store_slots.specs.Slots.{slots_most, transfer_at, slots}

-- s and then b is one of the sequences
unfoldable pub has_arc : List (List ℕ) → List ℕ → ℕ → Bool
has_arc ps s b = any (same (s ++ (b ∷ []))) ps

-- s and then change b
abbrev pub changing : List ℕ → Transfer → List ℕ
changing s b = s ++ (b.alighted ∷ b.boarded ∷ [])

-- that is the beginning of a longer one
unfoldable pub has_kid : List (List ℕ) → List ℕ → Transfer → Bool
has_kid ps s b = any (same (changing s b)) (concat_map beginnings ps)

unfoldable pub all_stations : List ℕ
all_stations = range 1 stations_most

unfoldable pub arcs_of : List (List ℕ) → List ℕ → List ℕ
arcs_of ps s = filter (has_arc ps s) all_stations

-- the slots of the kids, for the timetable that the words w spell
unfoldable pub kids_of : (w : List ℕ) → List (List ℕ) → List ℕ → List ℕ
kids_of w ps s = filter (λ k. has_kid ps s (transfer_at w k)) (slots w)

-- the nodes that come from s
unfoldable pub children : (w : List ℕ) → List (List ℕ) → List ℕ → List (List ℕ)
children w ps s = map (λ k. changing s (transfer_at w k)) (kids_of w ps s)

-- the root and all nodes, by number
unfoldable pub rooted : List (List ℕ) → List (List ℕ)
rooted ps = [] ∷ nodes ps

abbrev pub node_at : List (List ℕ) → ℕ → List ℕ
node_at ps v = get_or (rooted ps) v []

-- these stations are those of a change that can be made
pub record Slot (w : List ℕ) (b : Transfer) : Type 0 where
  pub slot : ℕ
  pub listed : slot ∈ slots w
  pub is : transfer_at w slot ≡ b

-- and so are all pairs of a sequence
abbrev pub Slotted : (w : List ℕ) → List ℕ → Type 0
Slotted w [] = Unit {0}
Slotted w (x ∷ []) = Unit {0}
Slotted w (x ∷ y ∷ q) = Slot w (record { alighted = x; boarded = y }) × Slotted w q

-- sequences of a timetable's stations and changes
pub record Made (w : List ℕ) (ps : List (List ℕ)) : Type 0 where
  pub timetable : is_timetable w ≡ true
  pub odd : (p : List ℕ) → p ∈ ps → Odd p
  pub within : (p : List ℕ) → p ∈ ps → Within (station_count w) p
  pub paired : (p : List ℕ) → p ∈ ps → Slotted w p

-- A node in one word: the slot of its change, its parent's number, and how many arcs it has, once it is taken.
unfoldable pub node_word : (slot parent arcs : ℕ) → ℕ
node_word s p a = s + 512 * p + 8388608 * a

unfoldable pub slot_in : ℕ → ℕ
slot_in x = x % 512

unfoldable pub parent_in : ℕ → ℕ
parent_in x = x / 512 % 16384

unfoldable pub arcs_in : ℕ → ℕ
arcs_in x = x / 8388608

-- the change that a node ends with; the root stands for one at the source itself
abbrev pub last_of : (source : ℕ) → List ℕ → Transfer
last_of source q = record { alighted = final (source ∷ front q); boarded = final (source ∷ q) }

-- x is the word of node v where the nodes below lo have been taken
pub record Word (w : List ℕ) (ps : List (List ℕ)) (source lo v x : ℕ) : Type 0 where
  pub slot : ℕ
  pub listed : slot ∈ slots w
  pub stands : transfer_at w slot ≡ last_of source (node_at ps v)
  pub is : x
      ≡ node_word
      slot
      (place (front (front (node_at ps v))) (rooted ps))
      (cond (ltb v lo) (length (arcs_of ps (node_at ps v))) 0)

-- The nodes below lo have been taken: words 0 to n are the root, their kids and no others, and the first m targets are
-- those of their arcs, node by node.
pub record Grown (w : List ℕ) (ps : List (List ℕ)) (source : ℕ) (work targets : List ℕ) (n m lo : ℕ) : Type 0 where
  pub inside : lo ≤ suc n
  pub node_count_lem : n ≡ length (concat_map (children w ps) (take lo (rooted ps)))
  pub arc_count_lem : m ≡ length (concat_map (arcs_of ps) (take lo (rooted ps)))
  pub few_nodes : n ≤ entries_most
  pub few_arcs : m ≤ entries_most
  pub long_work : length work ≡ 16384
  pub long_targets : length targets ≡ 16384
  pub words : (v : ℕ) → v ≤ n → Word w ps source lo v (get_or work v 0)
  pub listed : take m targets ≡ concat_map (arcs_of ps) (take lo (rooted ps))

-- a store that does not fit: "n and m at most 16,383"
abbrev pub TooMany : List (List ℕ) → Type 0
TooMany ps = (entries_most < length (nodes ps)) ⊎ (entries_most < length (arcs ps))

-- flags of the stations, at index j that of station j + 1: 1 exactly where the test passes
pub record Flags (test : ℕ → Bool) (flags : List ℕ) : Type 0 where
  pub long : length flags ≡ 64
  pub up : (j : ℕ) → j < 64 → T (test (suc j)) → get_or flags j 0 ≡ 1
  pub down : (j : ℕ) → j < 64 → get_or flags j 0 ≡ 1 → T (test (suc j))

-- flags of the slots, by number; those of no slot may be what they are
pub record KidFlags (w : List ℕ) (test : Transfer → Bool) (flags : List ℕ) : Type 0 where
  pub long : length flags ≡ slots_most
  pub up : (s : ℕ) → s ∈ slots w → T (test (transfer_at w s)) → get_or flags s 0 ≡ 1
  pub down : (s : ℕ) → s ∈ slots w → get_or flags s 0 ≡ 1 → T (test (transfer_at w s))

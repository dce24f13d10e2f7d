-- A node of the store's tree while it grows: the station where it boards, its labels, and its marks for one minute.
use Rattle.std.specs.Prelude.{◌≡◌, true, ◌↔◌, List, ℕ, suc, ◌≤◌, ◌<◌, length, get_or}
use Rattle.std.proofs.Common.{sym, subst, inl, inr, arith}
use Rattle.lists.specs.Lists.{◌∈◌}
use Rattle.timetable.specs.Words.{station_count, is_timetable}
use Rattle.connections.specs.Connections.{Transfer}
use Rattle.stores.specs.Stored.{sequences}
use Rattle.store_stops.specs.Paid.{LeastArrivals, Labelled}
use Rattle.store_stops.specs.Prospects.{Allows, Bounded, Ends, GoesOn}
use Rattle.store_stops.specs.Settled.{Settled}
use Rattle.store_stops.specs.TimelyLaws.{timely}
use Rattle.store_stops.specs.LeastSettled.{least_settled}
use Rattle.store_departures.specs.Order.{catch_by}
use Rattle.store_frontier.specs.Routes.{Routes}
use Rattle.store_slots.specs.Slots.{transfer_at, slots}
use Rattle.store_slots.specs.SlotLaws.{slot_small, slot_stations}
use Rattle.store_marks.specs.Reaching.{boards_at}
use Rattle.store_marks.specs.Marking.{Marked, Slotted, ArcsMarked, KidsMarked}
use Rattle.store_marks.specs.Stepping.{Onward}
use Rattle.store_tree.specs.Tree.{node_at, slot_in, parent_in, Grown}
use Rattle.store_tree.specs.Says.{says_listed, says_node}
use Rattle.store_tree.specs.Growth.{grown_listed}
use Rattle.store_tree.specs.StoredTree.{stored_made}
use Rattle.store_nodes.specs.Minutes.{ArcAt, KidAt, backwards, node_even, arc_ends, kid_goes_on}
use Rattle.store_nodes.specs.Nodes.{Sequenced, sequenced, boards_apart}

-- node v of the tree for source a has a word
pub record Standing (w : List ℕ) (a : ℕ) (work : List ℕ) (v : ℕ) : Type 0 where
  pub targets : List ℕ
  pub n : ℕ
  pub m : ℕ
  pub lo : ℕ
  pub grown : Grown w (sequences w a) a work targets n m lo
  pub on : v ≤ n

-- all nodes below hi have words
pub record StandingTo (w : List ℕ) (a : ℕ) (work : List ℕ) (hi : ℕ) : Type 0 where
  pub targets : List ℕ
  pub n : ℕ
  pub m : ℕ
  pub lo : ℕ
  pub grown : Grown w (sequences w a) a work targets n m lo
  pub on : hi ≤ suc n

pub standing : (w : List ℕ) (a : ℕ) (work : List ℕ) (hi v : ℕ) → StandingTo w a work hi → v < hi
    → Standing w a work v
standing w a work hi v s h =
    record {
      targets = s.targets;
      n = s.n;
      m = s.m;
      lo = s.lo;
      grown = s.grown;
      on = omega (arith, s.on);
    }

-- at station c, where node v boards, the least that is paid by those who changed as it says
pub record NodeLabels (w : List ℕ) (a d v c : ℕ) (x : List ℕ) : Type 0 where
  pub boards : boards_at a (backwards (node_at (sequences w a) v)) ≡ c
  pub labels : Labelled w a d (backwards (node_at (sequences w a) v)) c x

-- what is allowed at minute d, and who can still end well then
pub record Judged (w : List ℕ) (a d : ℕ) (allowed q : List ℕ) : Type 0 where
  pub least : List ℕ
  pub is_least : LeastArrivals w a d least
  pub allows : Allows w a least allowed
  pub bounded : Bounded w allowed d (catch_by w) q

pub judged : (w listed : List ℕ) (n a d : ℕ) (v allowed caught q : List ℕ) → Routes w listed n caught
    → Settled w a d v → Allows w a v allowed → Bounded w allowed d (catch_by w) q → Judged w a d allowed q
judged w listed n a d v allowed caught q r s l b =
    record { least = v; is_least = least_settled w a d v r.timely s; allows = l; bounded = b }

-- the arcs of node v at minute d, where station k + 1 has flag k, and its kids, by slot
abbrev pub ArcsAt : (w : List ℕ) (a d v k : ℕ) → Type 0
ArcsAt w a d v k = ArcAt w a d (node_at (sequences w a) v) (suc k)

abbrev pub KidsAt : (w : List ℕ) (a d v s : ℕ) → Type 0
KidsAt w a d v s = Slotted w (KidAt w a d (node_at (sequences w a) v)) s

marked_same : (n : ℕ) (A B : ℕ → Type 0) (old new : List ℕ) → ((k : ℕ) → A k ↔ B k) → Marked n A old new
    → Marked n B old new
marked_same n A B old new same m =
    record {
      exactly =
          λ k h. (
            λ e. (elim ((m.exactly k h).0 e) [ inl o ↦ inl o | inr t ↦ inr ((same k).0 t) ]),
            λ e. (m.exactly k h).1 (elim e [ inl o ↦ inl o | inr t ↦ inr ((same k).1 t) ]),
          );
    }

-- what holds of a change holds of its slot
slotted_same : (w : List ℕ) (A B : Transfer → Type 0) → ((t : Transfer) → A t ↔ B t) → (s : ℕ)
    → Slotted w A s ↔ Slotted w B s
slotted_same w A B same s = (
  λ h. record { listed = h.listed; holds = (same (transfer_at w s)).0 h.holds },
  λ h. record { listed = h.listed; holds = (same (transfer_at w s)).1 h.holds },
)

module _ (w : List ℕ) (yes : is_timetable w ≡ true) (a : ℕ) (work : List ℕ) (v : ℕ) (s : Standing w a work v) where
  named : (u : ℕ) → u ≤ s.n → Sequenced a (node_at (sequences w a) u)
  named u h =
      sequenced w yes a u
      (grown_listed w (sequences w a) (stored_made w yes a) a work s.targets s.n s.m s.lo s.grown u h)

  -- the change of a node leads elsewhere than the parent boards
  pub node_onward : (u : ℕ) → u ≤ s.n → 1 ≤ u
      → Onward w (boards_at a (backwards (node_at (sequences w a) (parent_in (get_or work u 0)))))
      (slot_in (get_or work u 0))
  node_onward u h some =
      let made = stored_made w yes a in
      let p = parent_in (get_or work u 0) in
      record {
        listed = says_listed w (sequences w a) made a work s.targets s.n s.m s.lo s.grown u h;
        apart =
            boards_apart a (node_at (sequences w a) p) (transfer_at w (slot_in (get_or work u 0)))
            (node_even (sequences w a) p)
            (subst (λ q. Sequenced a q)
            (sym (says_node w (sequences w a) made a work s.targets s.n s.m s.lo s.grown u h some))
            (named u h)
            ).apart;
      }

  -- the slot of a node, and the station where it boards
  slot_listed : slot_in (get_or work v 0) ∈ slots w
  slot_listed =
      says_listed w (sequences w a) (stored_made w yes a) a work s.targets s.n s.m s.lo s.grown v s.on

  pub node_slot : slot_in (get_or work v 0) < 320
  node_slot = slot_small w yes (slot_in (get_or work v 0)) slot_listed

  pub node_inside : v < length work
  node_inside = omega (arith, s.on, s.grown.few_nodes, s.grown.long_work)

  pub node_few : v < 16384
  node_few = omega (arith, s.on, s.grown.few_nodes)

  pub node_station : (c : ℕ) → c ≡ (transfer_at w (slot_in (get_or work v 0))).boarded → c ≤ station_count w
  node_station c boards = omega (arith, (slot_stations w yes (slot_in (get_or work v 0)) slot_listed).boarded_last)

module _ (w : List ℕ) (yes : is_timetable w ≡ true) (a d v c : ℕ) (x allowed q : List ℕ)
    (labels : NodeLabels w a d v c x) (judged : Judged w a d allowed q) where
  abbrev sequence : List ℕ
  sequence = node_at (sequences w a) v

  pub arcs_at : (arcs arcs' : List ℕ) → ArcsMarked w c x allowed arcs arcs' → Marked 64 (ArcsAt w a d v) arcs arcs'
  arcs_at arcs arcs' h =
      marked_same 64 (λ k. Ends w a d allowed (backwards sequence) (suc k)) (ArcsAt w a d v) arcs arcs'
      (λ k.
      arc_ends w yes (timely w yes) a sequence (node_even (sequences w a) v) d judged.least allowed
      judged.is_least judged.allows (suc k))
      (h.marked a d (backwards sequence) labels.boards labels.labels)

  pub kids_at : (kids kids' : List ℕ) → KidsMarked w c x allowed q kids kids' → Marked 320 (KidsAt w a d v) kids kids'
  kids_at kids kids' h =
      marked_same 320 (Slotted w (GoesOn w a d allowed (backwards sequence))) (KidsAt w a d v) kids kids'
      (slotted_same w (GoesOn w a d allowed (backwards sequence)) (KidAt w a d sequence)
      (kid_goes_on w yes (timely w yes) a sequence (node_even (sequences w a) v) d judged.least allowed
      judged.is_least judged.allows))
      (h.marked a d (backwards sequence) labels.boards labels.labels judged.bounded)

-- Labels at hand. Those of a node stand at the departures of the station where it boards, so that those of several
-- nodes stand side by side; for each station it is noted whose they are, by one more than the node's number, and behind
-- the 65 places of stations, one more than its number too, the last node behind which some go on.
use Rattle.std.specs.Prelude.{◌≡◌, refl, Bool, true, ◌≢◌, ◌⊎◌, List, [], ◌∷◌, ℕ, ◌+◌, ◌≤◌, ◌<◌, max, eqb, ltb, length}
use Rattle.std.specs.Prelude.{get_or, set, replicate}
use Rattle.std.proofs.Common.{sym, ap, subst, ◌∙◌, inl, inr, arith, eqb-true, ltb→lt, nltb→le, get_or-set_same}
use Rattle.std.proofs.Common.{get_or-set_other}
use Rattle.std.proofs.Math.Decide.{ℕ_discrete}
use Rattle.lists.specs.Tests.{either}
use Rattle.timetable.specs.Words.{station_count, is_timetable}
use Rattle.timetable.specs.Access.{stations_few}
use Rattle.stores.specs.Stored.{sequences}
use Rattle.store_stops.specs.Paid.{Labelled}
use Rattle.store_frontier.specs.Zeros.{zero_replicate}
use Rattle.store_slots.specs.Slots.{transfer_at}
use Rattle.store_marks.specs.Reaching.{boards_at}
use Rattle.store_marks.specs.Stepping.{Onward, Keeps, Steps, Stepped}
use Rattle.store_tree.specs.Tree.{changing, rooted, node_at, slot_in, parent_in}
use Rattle.store_tree.specs.Says.{says_below, says_node}
use Rattle.store_tree.specs.StoredTree.{stored_made}
use Rattle.store_nodes.specs.Minutes.{turned, backwards, backwards_more, node_even}
use Rattle.store_nodes.specs.Standing.{Standing, NodeLabels, ArcsAt, KidsAt, node_onward, node_station}

-- one more than the last node behind which some go on
abbrev pub top : List ℕ → ℕ
top hand = get_or hand 65 0

-- x has at each station the labels of the node that is noted there
pub record AtHand (w : List ℕ) (a d : ℕ) (hand x : List ℕ) : Type 0 where
  pub labels : (c v : ℕ) → c < 65 → get_or hand c 0 ≡ v + 1 → NodeLabels w a d v c x

-- node v is noted at station c
pub record Noted (c v : ℕ) (hand hand' : List ℕ) : Type 0 where
  pub place : c < 65
  pub here : get_or hand' c 0 ≡ v + 1
  pub other : (b : ℕ) → b ≢ c → b < 65 → get_or hand' b 0 ≡ get_or hand b 0
  pub rises : top hand ≤ top hand'

-- it is noted that some go on behind node v
pub record NotedOn (v : ℕ) (hand hand' : List ℕ) : Type 0 where
  pub same : (c : ℕ) → c < 65 → get_or hand' c 0 ≡ get_or hand c 0
  pub rises : top hand ≤ top hand'
  pub reaches : v < top hand'

-- no optimal connection at minute d begins with the sequence of node v and goes on
pub record Idle (w : List ℕ) (a d v : ℕ) : Type 0 where
  pub kids : (s : ℕ) → ¬ KidsAt w a d v s

-- and none has that sequence
pub record Quiet (w : List ℕ) (a d v : ℕ) : Type 0 where
  pub arcs : (k : ℕ) → ¬ ArcsAt w a d v k
  pub idle : Idle w a d v

-- of the nodes from v up to u those are idle that stand behind the last one noted so
pub record IdleOn (w : List ℕ) (a d v u : ℕ) (hand hand' : List ℕ) : Type 0 where
  pub rises : top hand ≤ top hand'
  pub idle : (i : ℕ) → v ≤ i → i < u → (i < top hand') ⊎ Idle w a d i

-- node v is node p with the change of slot s behind it
pub record Below (w : List ℕ) (a p s v : ℕ) : Type 0 where
  pub is : changing (node_at (sequences w a) p) (transfer_at w s) ≡ node_at (sequences w a) v

-- from the labels at station c to those at station e, behind the change of slot s, which are noted as those of node v
pub record LabelledKid (w : List ℕ) (c s v e : ℕ) (x y hand hand' : List ℕ) : Type 0 where
  pub stepped : Stepped w c s e x y
  pub noted : Noted e v hand hand'

-- a station has a place among those of 65
pub station_place : (w : List ℕ) (c : ℕ) → is_timetable w ≡ true → c ≤ station_count w → c < 65
station_place w c ok listed = omega (arith, stations_few w ok)

-- nothing is at hand at first
pub hand_none : (w : List ℕ) (a d : ℕ) (x : List ℕ) → AtHand w a d (replicate 66 0) x
hand_none w a d x =
    record { labels = λ c v h e. absurd (omega (arith, zero_replicate 66 c)) }

-- a node is noted by one word
pub noted_word : (c v : ℕ) (hand : List ℕ) (n : ℕ) → n ≡ v + 1 → c < 65 → length hand ≡ 66
    → Noted c v hand (set hand c n)
noted_word c v hand n number inside long =
    record {
      place = inside;
      here = get_or-set_same hand c n 0 (omega arith) ∙ number;
      other = λ b apart few. get_or-set_other hand c b n 0 apart;
      rises = omega (arith, get_or-set_other hand c 65 n 0 (λ e. omega arith));
    }

-- and that some go on behind it by another
pub noted_on : (v : ℕ) (hand : List ℕ) (n last r : ℕ) → n ≡ v + 1 → last ≡ top hand → r ≡ max last n
    → length hand ≡ 66 → NotedOn v hand (set hand 65 r)
noted_on v hand n last r number was most long =
    let largest : top (set hand 65 r) ≡ r = get_or-set_same hand 65 r 0 (omega arith) in
    record {
      same = λ c few. get_or-set_other hand 65 c r 0 (λ e. omega arith);
      rises = omega (arith, largest);
      reaches = omega (arith, largest);
    }

-- which leaves what is at hand
pub noted_then : (c v u : ℕ) (hand mid hand' : List ℕ) → Noted c v hand mid → NotedOn u mid hand' → Noted c v hand hand'
noted_then c v u hand mid hand' before on =
    record {
      place = before.place;
      here = on.same c before.place ∙ before.here;
      other = λ b apart few. (on.same b few ∙ before.other b apart few);
      rises = omega (arith, before.rises, on.rises);
    }

pub hand_on : (w : List ℕ) (a d v : ℕ) (hand hand' x : List ℕ) → AtHand w a d hand x → NotedOn v hand hand'
    → AtHand w a d hand' x
hand_on w a d v hand hand' x at on =
    record { labels = λ c u few is. at.labels c u few (sym (on.same c few) ∙ is) }

module _ (w : List ℕ) (a d : ℕ) (hand x : List ℕ) (at : AtHand w a d hand x) where
  -- what is noted is there
  module _ (c v : ℕ) (inside : c < 65) (test : Bool) (is : test ≡ eqb (get_or hand c 0) (v + 1))
      (passed : test ≡ true) where
    found : get_or hand c 0 ≡ v + 1
    found = eqb-true (get_or hand c 0) (v + 1) (sym is ∙ passed)

    pub hand_there : NodeLabels w a d v c x
    hand_there = at.labels c v inside found

  -- and what is noted with its labels is at hand
  pub hand_more : (e v : ℕ) (y hand' : List ℕ) → Keeps w e x y → NodeLabels w a d v e y → Noted e v hand hand'
      → AtHand w a d hand' y
  hand_more e v y hand' keeps labels noted = record { labels = says }
    where
      -- a node noted is this one, or was noted before
      cases : (P : ℕ → ℕ → Type 0) → P e v → ((c u : ℕ) → c ≢ e → c < 65 → get_or hand c 0 ≡ u + 1 → P c u)
          → (c u : ℕ) → c < 65 → get_or hand' c 0 ≡ u + 1 → P c u
      cases P this before c u inside is =
          elim (ℕ_discrete c e) [
            | yes same ↦
                (let node : v ≡ u = omega (arith, noted.here, ap (λ k. get_or hand' k 0) same) in
                subst (λ k. P k u) (sym same) (subst (P e) node this))
            | no apart ↦ before c u apart inside (sym (noted.other c apart inside) ∙ is)
          ]

      says : (c u : ℕ) → c < 65 → get_or hand' c 0 ≡ u + 1 → NodeLabels w a d u c y
      says =
          cases (λ c u. NodeLabels w a d u c y) labels
          (λ c u apart inside is.
          let old = at.labels c u inside is in
          record {
            boards = old.boards;
            labels = keeps.kept c apart a d (backwards (node_at (sequences w a) u)) old.labels;
          })

-- ---- the root
module _ (w : List ℕ) (a d : ℕ) (x : List ℕ) (labels : Labelled w a d [] a x) where
  pub root_labels : NodeLabels w a d 0 a x
  unfolding rooted backwards turned
  root_labels = record { boards = refl; labels = labels }

pub root_there : (w : List ℕ) (a d v c : ℕ) (x : List ℕ) → NodeLabels w a d 0 c x → v ≡ 0 → NodeLabels w a d v c x
root_there w a d v c x labels first = subst (λ v. NodeLabels w a d v c x) (sym first) labels

pub root_at_hand : (w : List ℕ) (a d : ℕ) (hand x y hand' : List ℕ) → AtHand w a d hand x
    → Labelled w a d [] a y → Keeps w a x y → Noted a 0 hand hand' → AtHand w a d hand' y
root_at_hand w a d hand x y hand' at labels keeps noted =
    hand_more w a d hand x at a 0 y hand' keeps (root_labels w a d y labels) noted

-- ---- a node and its parent
module _ (w : List ℕ) (ok : is_timetable w ≡ true) (a : ℕ) (work : List ℕ) (v : ℕ) (s : Standing w a work v)
    (more : v ≡ 0 → ⊥) (p : ℕ) (from : p ≡ parent_in (get_or work v 0)) where
  some : 1 ≤ v
  some = omega (arith, more)

  pub parent_under : p < v
  parent_under =
      omega (
        arith,
        says_below w (sequences w a) (stored_made w ok a) a work s.targets s.n s.m s.lo s.grown v s.on
            some,
      )

  pub parent_stands : Standing w a work p
  parent_stands =
      record {
        targets = s.targets;
        n = s.n;
        m = s.m;
        lo = s.lo;
        grown = s.grown;
        on = omega (arith, parent_under, s.on);
      }

  pub below_parent : Below w a p (slot_in (get_or work v 0)) v
  below_parent =
      record {
        is =
            ap (λ p. changing (node_at (sequences w a) p) (transfer_at w (slot_in (get_or work v 0)))) from
            ∙ says_node w (sequences w a) (stored_made w ok a) a work s.targets s.n s.m s.lo s.grown v
            s.on
            some;
      }

  pub parent_onward : (c : ℕ) → boards_at a (backwards (node_at (sequences w a) p)) ≡ c
      → Onward w c (slot_in (get_or work v 0))
  parent_onward c boards =
      subst (λ c. Onward w c (slot_in (get_or work v 0)))
      (ap (λ p. boards_at a (backwards (node_at (sequences w a) p))) (sym from) ∙ boards)
      (node_onward w ok a work v s v s.on some)

-- ---- one change further
module _ (w : List ℕ) (a d p s v : ℕ) (below : Below w a p s v) (c : ℕ) (x y : List ℕ) (labels : NodeLabels w a d p c x)
  where
    pub next_labels : Steps w c (transfer_at w s) x y → NodeLabels w a d v (transfer_at w s).boarded y
    next_labels steps =
        let changes : transfer_at w s ∷ backwards (node_at (sequences w a) p) ≡ backwards (node_at (sequences w a) v) =
        sym (backwards_more (node_at (sequences w a) p) (transfer_at w s) (node_even (sequences w a) p))
        ∙ ap backwards below.is in
        record {
          boards = ap (boards_at a) (sym changes);
          labels =
              subst (λ r. Labelled w a d r (transfer_at w s).boarded y) changes
              (steps.next a d (backwards (node_at (sequences w a) p)) labels.boards labels.labels);
        }

    module _ (e : ℕ) (hand hand' : List ℕ) (kid : LabelledKid w c s v e x y hand hand') where
      pub kid_labels : NodeLabels w a d v e y
      kid_labels =
          subst (λ e. NodeLabels w a d v e y) (sym kid.stepped.boards) (next_labels kid.stepped.steps)

      pub kid_at_hand : AtHand w a d hand x → AtHand w a d hand' y
      kid_at_hand at =
          hand_more w a d hand x at e v y hand'
          (subst (λ e. Keeps w e x y) (sym kid.stepped.boards) kid.stepped.steps.keeps)
          kid_labels
          kid.noted

-- ---- a node from its parent
module _ (w : List ℕ) (ok : is_timetable w ≡ true) (a : ℕ) (work : List ℕ) (v : ℕ) (s : Standing w a work v)
    (more : v ≡ 0 → ⊥) (p : ℕ) (from : p ≡ parent_in (get_or work v 0)) (d c : ℕ) (x : List ℕ)
    (labels : NodeLabels w a d p c x) where
  pub node_onward_from : Onward w c (slot_in (get_or work v 0))
  node_onward_from = parent_onward w ok a work v s more p from c labels.boards

  module _ (e : ℕ) (y hand hand' : List ℕ)
      (kid : LabelledKid w c (slot_in (get_or work v 0)) v e x y hand hand') where
    below : Below w a p (slot_in (get_or work v 0)) v
    below = below_parent w ok a work v s more p from

    pub node_labelled : NodeLabels w a d v e y
    node_labelled = kid_labels w a d p (slot_in (get_or work v 0)) v below c x y labels e hand hand' kid

    pub node_at_hand : AtHand w a d hand x → AtHand w a d hand' y
    node_at_hand at = kid_at_hand w a d p (slot_in (get_or work v 0)) v below c x y labels e hand hand' kid at

-- the station where a node boards has its place
pub node_place : (w : List ℕ) (ok : is_timetable w ≡ true) (a : ℕ) (work : List ℕ) (v : ℕ) → Standing w a work v
    → (c : ℕ) → c ≡ (transfer_at w (slot_in (get_or work v 0))).boarded → c < 65
node_place w ok a work v s c boards = station_place w c ok (node_station w ok a work v s c boards)

pub labelled_kid : (w : List ℕ) (c s z v e : ℕ) (x y hand hand' : List ℕ) → z ≡ s → Stepped w c z e x y
    → Noted e v hand hand' → LabelledKid w c s v e x y hand hand'
labelled_kid w c s z v e x y hand hand' slot stepped noted =
    record { stepped = subst (λ s. Stepped w c s e x y) slot stepped; noted = noted }

pub noted_rises : (e v : ℕ) (hand hand' : List ℕ) → Noted e v hand hand' → top hand ≤ top hand'
noted_rises e v hand hand' noted = noted.rises

pub slot_onward : (w : List ℕ) (c s z : ℕ) → z ≡ s → Onward w c s → Onward w c z
slot_onward w c s z slot onward = subst (Onward w c) (sym slot) onward

-- ---- what is read
pub slot_small_too : (s z : ℕ) → z ≡ s → s < 320 → z < 320
slot_small_too s z slot few = omega arith

pub boards_there : (w : List ℕ) (s z c : ℕ) → z ≡ s → c ≡ (transfer_at w z).boarded → c ≡ (transfer_at w s).boarded
boards_there w s z c slot boards = boards ∙ ap (λ z. (transfer_at w z).boarded) slot

pub compared : (r k n : ℕ) → r ≡ k → eqb r n ≡ eqb k n
compared r k n is = ap (λ z. eqb z n) is

-- ---- idle nodes
-- of the nodes from v up to u those from r on are idle
pub record IdleFrom (w : List ℕ) (a d v u r : ℕ) : Type 0 where
  pub idle : (i : ℕ) → v ≤ i → i < u → (i < r) ⊎ Idle w a d i

pub idle_all : (w : List ℕ) (a d v u hi r : ℕ) (hand hand' : List ℕ) → IdleOn w a d v u hand hand' → hi ≤ u
    → r ≡ top hand' → IdleFrom w a d v hi r
idle_all w a d v u hi r hand hand' q whole is =
    record {
      idle = λ i h g.
          elim (q.idle i h (omega arith)) [
            | inl low ↦ inl (omega arith)
            | inr still ↦ inr still
          ];
    }

module _ (w : List ℕ) (a d : ℕ) where
  pub idle_none : (v : ℕ) (hand : List ℕ) → IdleOn w a d v v hand hand
  idle_none v hand = record { rises = omega arith; idle = (λ i h g. absurd (omega arith)) }

  pub idle_one : (v : ℕ) (hand hand' : List ℕ) → top hand ≤ top hand' → v < top hand'
      → IdleOn w a d v (v + 1) hand hand'
  idle_one v hand hand' rises low =
      record { rises = rises; idle = (λ i h g. inl (omega arith)) }

  pub idle_noted : (v : ℕ) (hand mid hand' : List ℕ) → top hand ≤ top mid → NotedOn v mid hand'
      → IdleOn w a d v (v + 1) hand hand'
  idle_noted v hand mid hand' rises on =
      idle_one v hand hand' (omega (arith, on.rises)) on.reaches

  pub idle_still : (v : ℕ) (hand hand' : List ℕ) → top hand ≤ top hand' → Idle w a d v
      → IdleOn w a d v (v + 1) hand hand'
  idle_still v hand hand' rises q =
      record {
        rises = rises;
        idle = (λ i h g. let e : v ≡ i = omega arith in inr (subst (Idle w a d) e q));
      }

  pub idle_then : (v u t : ℕ) (hand hand' hand'' : List ℕ) → IdleOn w a d v u hand hand'
      → IdleOn w a d u t hand' hand'' → IdleOn w a d v t hand hand''
  idle_then v u t hand hand' hand'' q r =
      record {
        rises = omega (arith, q.rises, r.rises);
        idle = λ i h g.
            either
            (ltb i u)
            (λ l.
            elim (q.idle i h (ltb→lt i u l)) [
              | inl low ↦ inl (omega (arith, r.rises))
              | inr still ↦ inr still
            ])
            (λ l. r.idle i (nltb→le i u l) g);
      }

  pub idle_later : (v u : ℕ) (hand hand' hand'' : List ℕ) → top hand ≤ top hand' → IdleOn w a d v u hand' hand''
      → IdleOn w a d v u hand hand''
  idle_later v u hand hand' hand'' rises q = record { rises = omega (arith, q.rises); idle = q.idle }

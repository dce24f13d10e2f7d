-- What a parent tells of its kids, for one minute: an optimal connection along the sequence of a node is one that goes
-- on from the parent's sequence with the node's change. So a node with which its parent does not go on has nothing to
-- mark, and the labels of the others are one change behind those of the parent, which stay.
use Rattle.std.specs.Prelude.{◌≡◌, refl, Bool, true, false, not, ◌≢◌, ◌⊎◌, ◌↔◌, List, [], ◌∷◌, ◌++◌, ℕ, suc, ◌+◌, ◌-◌}
use Rattle.std.specs.Prelude.{◌*◌, ◌^◌, ◌≤◌, ◌<◌, eqb, length, get_or}
use Rattle.std.proofs.Common.{sym, ap, subst, ◌∙◌, inl, inr, append_assoc, arith, eqb-true}
use Rattle.std.proofs.lemmas.Bool.{false≢true, not-true, not-false}
use Rattle.lists.specs.Lists.{◌∈◌}
use Rattle.timetable.specs.Words.{is_timetable}
use Rattle.connections.specs.Connections.{Transfer}
use Rattle.optimality.specs.Ways.{Way}
use Rattle.stores.specs.Stored.{sequences}
use Rattle.store_stops.specs.RideStops.{net_of}
use Rattle.store_slots.specs.Slots.{transfer_at, slots}
use Rattle.store_slots.specs.SlotLaws.{slot_small}
use Rattle.store_marks.specs.Reaching.{boards_at}
use Rattle.store_marks.specs.Stepping.{Onward}
use Rattle.store_marks.specs.Marking.{Marked, ArcsMarked, KidsMarked}
use Rattle.store_tree.specs.Tree.{rooted, node_at, slot_in, parent_in}
use Rattle.store_tree.specs.Says.{says_slot}
use Rattle.store_tree.specs.StoredTree.{stored_made}
use Rattle.store_nodes.specs.Minutes.{KidAt, backwards}
use Rattle.store_nodes.specs.Standing.{Standing, StandingTo, standing, NodeLabels, Judged, ArcsAt, KidsAt}
use Rattle.store_nodes.specs.Standing.{arcs_at, kids_at}
use Rattle.store_nodes.specs.Hand.{AtHand, Below, LabelledKid, NotedOn, Idle, Quiet, IdleOn, top}
use Rattle.store_nodes.specs.Hand.{noted_then, next_labels, kid_at_hand}
use Rattle.store_nodes.specs.Hand.{idle_none, idle_one, idle_still, idle_then, idle_later}
use Rattle.store_nodes.specs.Hand.{parent_stands, below_parent, parent_onward}
use Rattle.store_nodes.specs.Chunk.{Down, MarkedAt, RaisedOn, on_none, on_alone, on_then, part_of, put_part}
use Rattle.store_nodes.specs.Chunk.{marked_at_64, marked_at_320}
use Rattle.store_nodes.specs.Joining.{Joined, NoneUp}

-- x has the labels of node p at station c, where it boards, and in hope the flags of those changes are up with which p
-- goes on
pub record Ahead (w : List ℕ) (a d p c : ℕ) (x hope : List ℕ) : Type 0 where
  pub labels : NodeLabels w a d p c x
  pub kids : (s : ℕ) → s < 320 → (get_or hope s 0 ≡ 1) ↔ KidsAt w a d p s

-- whatever the start, the minute and the node were of which x and hope are: node v, which has the change of slot s
-- behind that one, gets those of its n flags that are told of its arcs, or its kids
pub record Told (n : ℕ) (At : (a d v k : ℕ) → Type 0) (w : List ℕ) (lo v c s : ℕ)
    (x hope allowed q old new : List ℕ) : Type 0 where
  pub told : (a d p : ℕ) → Ahead w a d p c x hope → Below w a p s v → Judged w a d allowed q
      → MarkedAt n (At a d v) lo v old new

-- and y is as good as x for the next one, what is noted then is at hand, and a node is idle behind which it is not
-- noted that some go on
pub record Stays (w : List ℕ) (c s v : ℕ) (hope allowed q x y hand hand' : List ℕ) : Type 0 where
  pub kept : (a d p : ℕ) → Ahead w a d p c x hope → Ahead w a d p c y hope
  pub at_hand : (a d p : ℕ) → Below w a p s v → Ahead w a d p c x hope → AtHand w a d hand x → AtHand w a d hand' y
  pub idle : (a d p : ℕ) → Below w a p s v → Ahead w a d p c x hope → Judged w a d allowed q
      → IdleOn w a d v (v + 1) hand hand'

-- ---- what the parent says
-- who has the sequence of the kid and then more begins with that of the parent and goes on with the kid's change
module _ (w : List ℕ) (a d p s v : ℕ) (below : Below w a p s v) where
  begins : (b : ℕ) (rest : List ℕ) (target : ℕ) → target ≢ a
      → Way (net_of w) a d target (node_at (sequences w a) v ++ (b ∷ rest))
      → KidAt w a d (node_at (sequences w a) p) (transfer_at w s)
  begins b rest target other way =
      let q = node_at (sequences w a) p in
      let t = transfer_at w s in
      record {
        rest = b ∷ rest;
        target = target;
        some = (λ e. omega (arith, ap length e));
        other = other;
        way =
            subst (Way (net_of w) a d target)
            (ap (λ l. l ++ (b ∷ rest)) (sym below.is)
            ∙ append_assoc q (t.alighted ∷ t.boarded ∷ []) (b ∷ rest)) way;
      }

  arc_hoped : (k : ℕ) → ArcsAt w a d v k → KidAt w a d (node_at (sequences w a) p) (transfer_at w s)
  arc_hoped k h = begins (suc k) [] (suc k) h.other h.way

  kid_hoped : (k : ℕ) → KidsAt w a d v k → KidAt w a d (node_at (sequences w a) p) (transfer_at w s)
  kid_hoped k h =
      let t = transfer_at w k in
      let r = h.holds in
      begins t.alighted (t.boarded ∷ r.rest) r.target r.other r.way

ahead_of : (w : List ℕ) (a d p c : ℕ) (x none hope : List ℕ) → NodeLabels w a d p c x → Down none
    → Marked 320 (KidsAt w a d p) none hope → Ahead w a d p c x hope
ahead_of w a d p c x none hope labels down marked =
    record {
      labels = labels;
      kids = λ s f. (
        λ h.
            elim ((marked.exactly s f).0 h) [
              | inl up ↦ absurd (omega (arith, down.none s))
              | inr k ↦ k
            ],
        λ k. (marked.exactly s f).1 (inr k),
      );
    }

-- ---- a node with which the parent does not go on
nobody : (n : ℕ) (Told : (k : ℕ) → Type 0) (lo v : ℕ) (old : List ℕ) → ((k : ℕ) → ¬ Told k)
    → MarkedAt n Told lo v old old
nobody n Told lo v old none =
    record {
      here = λ k f. (λ h. inl h, λ h. (elim h [ inl up ↦ up | inr t ↦ absurd (none k t) ]));
      below = λ i h. refl;
      above = λ i h. refl;
    }

-- a kid of an idle node is quiet
pub quiet_below : (w : List ℕ) (a d p s v : ℕ) → Below w a p s v → s ∈ slots w → Idle w a d p → Quiet w a d v
quiet_below w a d p s v below listed q =
    record {
      arcs = λ k h. q.kids s (record { listed = listed; holds = arc_hoped w a d p s v below k h });
      idle =
          record {
            kids = λ k h. q.kids s (record { listed = listed; holds = kid_hoped w a d p s v below k h });
          };
    }

module _ (w : List ℕ) (lo v c s : ℕ) (x hope allowed q old : List ℕ) (onward : Onward w c s) (few : s < 320)
    (down : get_or hope s 0 ≡ 1 → ⊥) where
  none_told : (n : ℕ) (At : (a d v k : ℕ) → Type 0)
      → ((a d p : ℕ) → Below w a p s v → (k : ℕ) → At a d v k
      → KidAt w a d (node_at (sequences w a) p) (transfer_at w s))
      → Told n At w lo v c s x hope allowed q old old
  none_told n At hoped =
      record {
        told = λ a d p from below judged.
            nobody n (At a d v) lo v old
            (λ k h.
            down
            ((from.kids s few).1 (record { listed = onward.listed; holds = hoped a d p below k h })));
      }

  pub arcs_none : Told 64 (ArcsAt w) w lo v c s x hope allowed q old old
  arcs_none = none_told 64 (ArcsAt w) (λ a d p below. arc_hoped w a d p s v below)

  pub kids_none : Told 320 (KidsAt w) w lo v c s x hope allowed q old old
  kids_none = none_told 320 (KidsAt w) (λ a d p below. kid_hoped w a d p s v below)

-- the flag of a slot that is read
pub hope_inside : (hope : List ℕ) (s z : ℕ) → z ≡ s → s < 320 → length hope ≡ 320 → z < length hope
hope_inside hope s z slot few long = omega arith

pub not_hoped : (hope : List ℕ) (s z : ℕ) → z ≡ s → (get_or hope z 0 ≡ 1 → ⊥) → get_or hope s 0 ≡ 1 → ⊥
not_hoped hope s z slot down up = down (ap (λ z. get_or hope z 0) slot ∙ up)

pub stays_same : (w : List ℕ) (c s v : ℕ) (hope allowed q x hand : List ℕ) → Onward w c s → s < 320
    → (get_or hope s 0 ≡ 1 → ⊥) → Stays w c s v hope allowed q x x hand hand
stays_same w c s v hope allowed q x hand onward few down =
    record {
      kept = (λ a d p from. from);
      at_hand = (λ a d p below from at. at);
      idle = λ a d p below from judged.
          idle_still w a d v hand hand (omega arith)
          (record {
            kids = λ k h.
                down
                ((from.kids s few).1 (record { listed = onward.listed; holds = kid_hoped w a d p s v below k h }));
          });
    }

-- ---- one with which it goes on
-- flags that were all down are down still, once those were raised of the changes after which one can still end well
pub record Unmarked (w : List ℕ) (c : ℕ) (x allowed q : List ℕ) : Type 0 where
  pub old : List ℕ
  pub new : List ℕ
  pub marked : KidsMarked w c x allowed q old new
  pub none : NoneUp 320 new

-- the labels behind the change of slot s, noted as those of node v, and the marks that they tell; if there is one of a
-- change, that is noted too
pub record MarkedKid (w : List ℕ) (c s v : ℕ) (x y hand hand' allowed q arcs arcs' kids kids' : List ℕ) : Type 0 where
  pub labelled : LabelledKid w c s v (transfer_at w s).boarded x y hand hand'
  pub arcs_marked : ArcsMarked w (transfer_at w s).boarded y allowed arcs arcs'
  pub kids_marked : KidsMarked w (transfer_at w s).boarded y allowed q kids kids'
  pub idle : (v < top hand') ⊎ Unmarked w (transfer_at w s).boarded y allowed q

-- flags that were down are raised by themselves, and then with the others
pub joined_kids : (w : List ℕ) (c : ℕ) (x allowed q none fresh old new : List ℕ) → Down none
    → KidsMarked w c x allowed q none fresh → Joined 320 old fresh new → KidsMarked w c x allowed q old new
joined_kids w c x allowed q none fresh old new down marked joined =
    record {
      marked = λ a d rev boards labels bounded.
          let m = marked.marked a d rev boards labels bounded in
          record {
            exactly = λ k few. (
              λ e.
                  elim ((joined.at k few).0 e) [
                    | inl up ↦ inl up
                    | inr up ↦
                        elim ((m.exactly k few).0 up) [
                          | inl was ↦ absurd (omega (arith, down.none k))
                          | inr told ↦ inr told
                        ]
                  ],
              λ e.
                  (joined.at k few).1
                  (elim e [
                    | inl up ↦ inl up
                    | inr told ↦ inr ((m.exactly k few).1 (inr told))
                  ]),
            );
          };
    }

pub unmarked : (w : List ℕ) (c : ℕ) (x allowed q none fresh : List ℕ) (test : Bool)
    → KidsMarked w c x allowed q none fresh → (test ≡ false → NoneUp 320 fresh)
    → test ≡ false → Unmarked w c x allowed q
unmarked w c x allowed q none fresh test marked still is =
    record { old = none; new = fresh; marked = marked; none = still is }

module _ (w : List ℕ) (c s v e : ℕ) (x y hand mid allowed q arcs arcs' kids kids' : List ℕ)
    (kid : LabelledKid w c s v e x y hand mid) (by_arcs : ArcsMarked w e y allowed arcs arcs')
    (by-kids : KidsMarked w e y allowed q kids kids') where
  there : e ≡ (transfer_at w s).boarded
  there = kid.stepped.boards

  marked_with : (hand' : List ℕ) → LabelledKid w c s v e x y hand hand'
      → (v < top hand') ⊎ Unmarked w e y allowed q → MarkedKid w c s v x y hand hand' allowed q arcs arcs' kids kids'
  marked_with hand' labelled idle =
      record {
        labelled = subst (λ e. LabelledKid w c s v e x y hand hand') there labelled;
        arcs_marked = subst (λ e. ArcsMarked w e y allowed arcs arcs') there by_arcs;
        kids_marked = subst (λ e. KidsMarked w e y allowed q kids kids') there by-kids;
        idle = subst (λ e. (v < top hand') ⊎ Unmarked w e y allowed q) there idle;
      }

  pub marked_idle : (test : Bool) → (test ≡ false → Unmarked w e y allowed q) → not test ≡ true
      → MarkedKid w c s v x y hand mid allowed q arcs arcs' kids kids'
  marked_idle test still down = marked_with mid kid (inr (still (not-true test down)))

  pub marked_on : (hand' : List ℕ) → NotedOn v mid hand'
      → MarkedKid w c s v x y hand hand' allowed q arcs arcs' kids kids'
  marked_on hand' on =
      marked_with hand'
      (record { stepped = kid.stepped; noted = noted_then e v v hand mid hand' kid.noted on })
      (inl on.reaches)

-- a node whose kids are unmarked is idle
unmarked_idle : (w : List ℕ) → is_timetable w ≡ true → (a d v c : ℕ) (x allowed q : List ℕ) → NodeLabels w a d v c x
    → Judged w a d allowed q → Unmarked w c x allowed q → Idle w a d v
unmarked_idle w ok a d v c x allowed q labels judged u =
    record {
      kids = λ s h.
          let few = slot_small w ok s h.listed in
          u.none.none s few
          (((kids_at w ok a d v c x allowed q labels judged u.old u.new u.marked).exactly s few).1 (inr h));
    }

pub stays : (w : List ℕ) (c s v : ℕ) → is_timetable w ≡ true → Onward w c s
    → (x y hand hand' allowed q arcs arcs' kids kids' : List ℕ)
    → MarkedKid w c s v x y hand hand' allowed q arcs arcs' kids kids' → (hope : List ℕ)
    → Stays w c s v hope allowed q x y hand hand'
stays w c s v ok onward x y hand hand' allowed q arcs arcs' kids kids' marked hope =
    record {
      kept = λ a d p from.
          record {
            labels =
                record {
                  boards = from.labels.boards;
                  labels =
                      marked.labelled.stepped.steps.keeps.kept c onward.apart a d
                      (backwards (node_at (sequences w a) p))
                      from.labels.labels;
                };
            kids = from.kids;
          };
      at_hand = λ a d p below from at.
          let e = (transfer_at w s).boarded in
          kid_at_hand w a d p s v below c x y from.labels e hand hand' marked.labelled at;
      idle = λ a d p below from judged.
          let e = (transfer_at w s).boarded in
          let labels = next_labels w a d p s v below c x y from.labels marked.labelled.stepped.steps in
          let rises = marked.labelled.noted.rises in
          elim marked.idle [
            | inl low ↦ idle_one w a d v hand hand' rises low
            | inr u ↦ idle_still w a d v hand hand' rises (unmarked_idle w ok a d v e y allowed q labels judged u)
          ];
    }

module _ (w : List ℕ) (c s : ℕ) (x y hand hand' allowed q : List ℕ) (ok : is_timetable w ≡ true) (lo v : ℕ)
    (hope old part : List ℕ) (low : lo ≤ v) (few : v < lo + 96) where
  pub arcs_told : (kids kids' : List ℕ) → length old ≡ 6144 → length part ≡ 64
      → MarkedKid w c s v x y hand hand' allowed q (part_of 64 (64 * (v - lo)) old) part kids kids'
      → Told 64 (ArcsAt w) w lo v c s x hope allowed q old (put_part 64 (64 * (v - lo)) old part)
  arcs_told kids kids' long part_is h =
      let lent = part_of 64 (64 * (v - lo)) old in
      record {
        told = λ a d p from below judged.
            let labels = next_labels w a d p s v below c x y from.labels h.labelled.stepped.steps in
            marked_at_64 lo v old part low few (ArcsAt w a d v) long part_is
            (arcs_at w ok a d v (transfer_at w s).boarded y allowed q labels judged lent part h.arcs_marked);
      }

  pub kids_told : (arcs arcs' : List ℕ) → length old ≡ 30720 → length part ≡ 320
      → MarkedKid w c s v x y hand hand' allowed q arcs arcs' (part_of 320 (320 * (v - lo)) old) part
      → Told 320 (KidsAt w) w lo v c s x hope allowed q old (put_part 320 (320 * (v - lo)) old part)
  kids_told arcs arcs' long part_is h =
      let lent = part_of 320 (320 * (v - lo)) old in
      record {
        told = λ a d p from below judged.
            let labels = next_labels w a d p s v below c x y from.labels h.labelled.stepped.steps in
            marked_at_320 lo v old part low few (KidsAt w a d v) long part_is
            (kids_at w ok a d v (transfer_at w s).boarded y allowed q labels judged lent part h.kids_marked);
      }

-- ---- the words of the nodes
-- node p boards at station c in the tree for source a
pub record Stationed (w : List ℕ) (a p c : ℕ) : Type 0 where
  pub boards : boards_at a (backwards (node_at (sequences w a) p)) ≡ c

-- the nodes below hi stand in the tree of some source, and node p boards at station c there
pub record Siblings (w : List ℕ) (c : ℕ) (work : List ℕ) (p hi : ℕ) : Type 0 where
  pub source : ℕ
  pub at : Stationed w source p c
  pub standing : StandingTo w source work hi

-- the root tells the source
pub root_source : (w : List ℕ) → is_timetable w ≡ true → (a : ℕ) (work : List ℕ) (v : ℕ) → Standing w a work v
    → (transfer_at w (slot_in (get_or work 0 0))).boarded ≡ a
unfolding rooted
root_source w ok a work v s =
    ap (λ (t : Transfer). t.boarded)
    (says_slot w (sequences w a) (stored_made w ok a) a work s.targets s.n s.m s.lo s.grown 0
    (omega arith))

module _ (w : List ℕ) (ok : is_timetable w ≡ true) (a : ℕ) (work : List ℕ) (hi : ℕ) (s : StandingTo w a work hi)
    (v : ℕ) (some : 1 ≤ v) (under : v < hi) (p : ℕ) (from : p ≡ parent_in (get_or work v 0)) where
  this : Standing w a work v
  this = standing w a work hi v s under

  more : v ≡ 0 → ⊥
  more e = omega arith

  pub parent_standing : Standing w a work p
  parent_standing = parent_stands w ok a work v this more p from

  parent_below : Below w a p (slot_in (get_or work v 0)) v
  parent_below = below_parent w ok a work v this more p from

  onward : (c : ℕ) → boards_at a (backwards (node_at (sequences w a) p)) ≡ c → Onward w c (slot_in (get_or work v 0))
  onward c boards = parent_onward w ok a work v this more p from c boards

pub stationed : (w : List ℕ) (a d p c : ℕ) (x : List ℕ) → NodeLabels w a d p c x → Stationed w a p c
stationed w a d p c x labels = record { boards = labels.boards }

pub siblings : (w work : List ℕ) (a p hi c : ℕ) → Stationed w a p c → StandingTo w a work hi → Siblings w c work p hi
siblings w work a p hi c at s = record { source = a; at = at; standing = s }

module _ (w : List ℕ) (c : ℕ) (work : List ℕ) (p hi : ℕ) (s : Siblings w c work p hi) where
  pub kids_inside : hi ≤ length work
  kids_inside = omega (arith, s.standing.on, s.standing.grown.few_nodes, s.standing.grown.long_work)

  module _ (v : ℕ) (under : v < hi) where
    pub sibling_inside : v < length work
    sibling_inside = omega (arith, kids_inside)

    pub sibling_number : v < 16384
    sibling_number = omega (arith, s.standing.on, s.standing.grown.few_nodes)

    pub sibling_fits : v + 1 < 2 ^ 64
    sibling_fits = omega (arith, sibling_number)

    module _ (ok : is_timetable w ≡ true) (o : 1 ≤ v) (from : p ≡ parent_in (get_or work v 0)) where
      sibling_below : (a : ℕ) → (transfer_at w (slot_in (get_or work 0 0))).boarded ≡ a
          → Below w a p (slot_in (get_or work v 0)) v
      sibling_below a root =
          let same : s.source ≡ a =
          sym (root_source w ok s.source work v (standing w s.source work hi v s.standing under)) ∙ root in
          subst (λ a. Below w a p (slot_in (get_or work v 0)) v) same
          (parent_below w ok s.source work hi s.standing v o under p from)

      pub sibling_onward : Onward w c (slot_in (get_or work v 0))
      sibling_onward = onward w ok s.source work hi s.standing v o under p from c s.at.boards

      pub sibling_few : slot_in (get_or work v 0) < 320
      sibling_few = slot_small w ok (slot_in (get_or work v 0)) sibling_onward.listed

-- ---- one sibling after the other
-- the tree is that of source a, and this is what is known of node p at minute d
pub record Family (w : List ℕ) (a d : ℕ) (work : List ℕ) (p c : ℕ) (x hope allowed q : List ℕ) : Type 0 where
  pub root : (transfer_at w (slot_in (get_or work 0 0))).boarded ≡ a
  pub ahead : Ahead w a d p c x hope
  pub judged : Judged w a d allowed q

-- whatever the start and the minute were: the kids of p from node v up to node u are marked
pub record ToldOn (n : ℕ) (At : (a d v k : ℕ) → Type 0) (w work : List ℕ) (p lo v u c : ℕ)
    (x hope allowed q old new : List ℕ) : Type 0 where
  pub on : (a d : ℕ) → Family w a d work p c x hope allowed q → RaisedOn n (At a d) lo v u old new

-- and then y is as good as x, what is noted is at hand, and those are idle behind which it is not noted that some go on
pub record StaysOn (w work : List ℕ) (p c v u : ℕ) (hope allowed q x y hand hand' : List ℕ) : Type 0 where
  pub kept : (a d p : ℕ) → Ahead w a d p c x hope → Ahead w a d p c y hope
  pub at_hand : (a d : ℕ) → (transfer_at w (slot_in (get_or work 0 0))).boarded ≡ a → Ahead w a d p c x hope
      → AtHand w a d hand x → AtHand w a d hand' y
  pub idle : (a d : ℕ) → (transfer_at w (slot_in (get_or work 0 0))).boarded ≡ a → Ahead w a d p c x hope
      → Judged w a d allowed q → IdleOn w a d v u hand hand'

module _ (n : ℕ) (At : (a d v k : ℕ) → Type 0) (w work : List ℕ) (p lo v c : ℕ) (x hope allowed q old : List ℕ) where
  pub told_none : ToldOn n At w work p lo v v c x hope allowed q old old
  told_none = record { on = λ a d f. on_none n (At a d) lo v old }

  pub told_one : (hi : ℕ) (new : List ℕ) → Siblings w c work p hi → is_timetable w ≡ true
      → Told n At w lo v c (slot_in (get_or work v 0)) x hope allowed q old new → lo ≤ v → 1 ≤ v → v < hi
      → p ≡ parent_in (get_or work v 0) → ToldOn n At w work p lo v (v + 1) c x hope allowed q old new
  told_one hi new s ok told low some under from =
      record {
        on = λ a d f.
            on_alone n (At a d) lo v old new low
            (told.told a d p f.ahead (sibling_below w c work p hi s v under ok some from a f.root) f.judged);
      }

  pub told_then : (u t : ℕ) (y hand hand' mid new : List ℕ) → ToldOn n At w work p lo v u c x hope allowed q old mid
      → StaysOn w work p c v u hope allowed q x y hand hand' → ToldOn n At w work p lo u t c y hope allowed q mid new
      → ToldOn n At w work p lo v t c x hope allowed q old new
  told_then u t y hand hand' mid new before stays next =
      record {
        on = λ a d f.
            on_then n (At a d) lo v u t old mid new (before.on a d f)
            (next.on a d
            (record {
              root = f.root;
              ahead = stays.kept a d p f.ahead;
              judged = f.judged;
            }));
      }

module _ (w work : List ℕ) (p c v : ℕ) (hope allowed q x hand : List ℕ) where
  pub stays_none : StaysOn w work p c v v hope allowed q x x hand hand
  stays_none =
      record {
        kept = (λ a d p from. from);
        at_hand = (λ a d root from at. at);
        idle = (λ a d root from judged. idle_none w a d v hand);
      }

  pub stays_one : (hi : ℕ) (y hand' : List ℕ) → Siblings w c work p hi → is_timetable w ≡ true
      → Stays w c (slot_in (get_or work v 0)) v hope allowed q x y hand hand' → 1 ≤ v → v < hi
      → p ≡ parent_in (get_or work v 0) → StaysOn w work p c v (v + 1) hope allowed q x y hand hand'
  stays_one hi y hand' s ok stays some under from =
      let below = sibling_below w c work p hi s v under ok some from in
      record {
        kept = stays.kept;
        at_hand = (λ a d root from-p at. stays.at_hand a d p (below a root) from-p at);
        idle = (λ a d root from-p judged. stays.idle a d p (below a root) from-p judged);
      }

  pub stays_then : (u t : ℕ) (y z hand' hand'' : List ℕ) → StaysOn w work p c v u hope allowed q x y hand hand'
      → StaysOn w work p c u t hope allowed q y z hand' hand'' → StaysOn w work p c v t hope allowed q x z hand hand''
  stays_then u t y z hand' hand'' r s =
      record {
        kept = (λ a d p from. s.kept a d p (r.kept a d p from));
        at_hand = (λ a d root from at. s.at_hand a d root (r.kept a d p from) (r.at_hand a d root from at));
        idle = λ a d root from judged.
            idle_then w a d v u t hand hand' hand'' (r.idle a d root from judged)
            (s.idle a d root (r.kept a d p from) judged);
      }

pub family : (w : List ℕ) → is_timetable w ≡ true → (a d : ℕ) (work : List ℕ) (p c : ℕ)
    (x none hope allowed q : List ℕ) → Standing w a work p → NodeLabels w a d p c x → Down none
    → Marked 320 (KidsAt w a d p) none hope → Judged w a d allowed q → Family w a d work p c x hope allowed q
family w ok a d work p c x none hope allowed q standing labels down marked judged =
    record {
      root = root_source w ok a work p standing;
      ahead = ahead_of w a d p c x none hope labels down marked;
      judged = judged;
    }

module _ (w work : List ℕ) (p lo v u c : ℕ) (x hope allowed q old new : List ℕ) (a d : ℕ)
    (f : Family w a d work p c x hope allowed q) where
  pub arcs_raised : ToldOn 64 (ArcsAt w) w work p lo v u c x hope allowed q old new
      → RaisedOn 64 (ArcsAt w a d) lo v u old new
  arcs_raised t = t.on a d f

  pub kids_raised : ToldOn 320 (KidsAt w) w work p lo v u c x hope allowed q old new
      → RaisedOn 320 (KidsAt w a d) lo v u old new
  kids_raised t = t.on a d f

module _ (w work : List ℕ) (p c v u : ℕ) (x y hand hand' hope allowed q : List ℕ) (a d : ℕ)
    (f : Family w a d work p c x hope allowed q) (stays : StaysOn w work p c v u hope allowed q x y hand hand') where
  pub family_at_hand : AtHand w a d hand x → AtHand w a d hand' y
  family_at_hand at = stays.at_hand a d f.root f.ahead at

  pub family_idle : (before : List ℕ) → top before ≤ top hand → IdleOn w a d v u before hand'
  family_idle before rises =
      idle_later w a d v u before hand hand' rises (stays.idle a d f.root f.ahead f.judged)

-- ---- the next sibling
-- p has node v for a kid as well, below hi
pub record Kin (work : List ℕ) (p hi v : ℕ) : Type 0 where
  pub under : v < hi
  pub from : p ≡ parent_in (get_or work v 0)

-- that is so if the test passes
pub record Sure (work : List ℕ) (p hi v : ℕ) (test : Bool) : Type 0 where
  pub kin : test ≡ true → Kin work p hi v

module _ (work : List ℕ) (p hi v : ℕ) where
  pub kin_past : Sure work p hi v false
  kin_past = record { kin = λ e. absurd (false≢true e) }

  pub kin_same : (r : ℕ) → v < hi → r ≡ parent_in (get_or work v 0) → Sure work p hi v (eqb r p)
  kin_same r under is =
      record { kin = λ e. record { under = under; from = sym (eqb-true r p e) ∙ is } }

  module _ (test : Bool) (s : Sure work p hi v test) (more : not test ≡ false) where
    pub kin_under : v < hi
    kin_under = (s.kin (not-false test more)).under

    pub kin_from : p ≡ parent_in (get_or work v 0)
    kin_from = (s.kin (not-false test more)).from

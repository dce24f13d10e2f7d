-- What the calls on a growing tree ask for and promise.
use Rattle.std.specs.Prelude.{◌≡◌, true, false, List, ℕ, suc, ◌+◌, ◌≤◌, ◌<◌}
use Rattle.std.proofs.Common.{subst, arith}
use Rattle.store_slots.specs.Slots.{slots}
use Rattle.store_tree.specs.Tree.{has_arc, has_kid, node_at, Made, Grown, TooMany, Flags, KidFlags}
use Rattle.store_tree.specs.declared.Counts.{Counts}

-- node v of the tree of ps is to be taken, and flags tell its arcs and kids
pub record Next
    (w : List ℕ) (ps : List (List ℕ)) (source : ℕ) (work targets : List ℕ) (n m v : ℕ) (arcs kids : List ℕ) : Type 0
  where
    pub made : Made w ps
    pub grown : Grown w ps source work targets n m v
    pub listed : v ≤ n
    pub arc_flags : Flags (has_arc ps (node_at ps v)) arcs
    pub kid_flags : KidFlags w (has_kid ps (node_at ps v)) kids

-- the same of some tree, the slots of which are listed
pub record Takes (list work targets : List ℕ) (n m v : ℕ) (arcs kids : List ℕ) : Type 0 where
  pub timetable : List ℕ
  pub sequences : List (List ℕ)
  pub source : ℕ
  pub all : list ≡ slots timetable
  pub next : Next timetable sequences source work targets n m v arcs kids

-- the node was taken, or the store does not fit
pub record Taken
    (w : List ℕ) (ps : List (List ℕ)) (source : ℕ) (work targets : List ℕ) (v : ℕ) (r : Counts) : Type 0 where
  pub taken : r.fits ≡ true → Grown w ps source work targets r.n r.m (v + 1)
  pub refused : r.fits ≡ false → TooMany ps

-- all nodes of some tree were taken
pub record Whole (w work targets : List ℕ) (n m : ℕ) : Type 0 where
  pub sequences : List (List ℕ)
  pub source : ℕ
  pub made : Made w sequences
  pub grown : Grown w sequences source work targets n m (suc n)

-- no node is left to be taken
pub grown_end : (w : List ℕ) (ps : List (List ℕ)) (source : ℕ) (work targets : List ℕ) (n m v : ℕ)
    → Grown w ps source work targets n m v → n < v → Grown w ps source work targets n m (suc n)
grown_end w ps source work targets n m v g h =
    let e : v ≡ suc n = omega (arith, g.inside) in
    subst (Grown w ps source work targets n m) e g

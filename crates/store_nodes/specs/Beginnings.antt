-- A beginning of a sequence and what is left of it.
use Rattle.std.specs.Prelude.{◌≡◌, refl, ◌≢◌, List, [], ◌∷◌, ◌++◌, map, ℕ}
use Rattle.std.proofs.Common.{sym, ap, ◌∙◌}
use mathlib.Core.List.Memᴰ
use mathlib.Core.List.Memᴰ.{head as here}
use mathlib.Core.List.Memᴰ.{tail as there}
use Rattle.lists.specs.Lists.{◌∈◌}
use Rattle.lists.specs.Members.{none, cons_cases}
use Rattle.connections.specs.Connections.{Transfer}
use Rattle.stores.specs.Words.{beginnings}
use Rattle.stores.specs.Sequences.{Odd, Even, odd_full}
use Rattle.store_tree.specs.Tree.{changing}

-- q begins p and is not all of it
pub record Begun (q p : List ℕ) : Type 0 where
  pub rest : List ℕ
  pub some : rest ≢ []
  pub is : q ++ rest ≡ p

pub begin_out : (p q : List ℕ) → Odd p → q ∈ beginnings p → Begun q p
begin_out [] q o m = none m
begin_out (x ∷ []) q o m = none m
begin_out (x ∷ y ∷ p) q o m = cons_cases m first (next (begin_out p))
  where
    first : q ≡ x ∷ y ∷ [] → Begun q (x ∷ y ∷ p)
    first e = record { rest = p; some = odd_full p o; is = ap (λ l. l ++ p) e }

    next : ((r : List ℕ) → Odd p → r ∈ beginnings p → Begun r p) → q ∈ map (λ l. x ∷ y ∷ l) (beginnings p)
        → Begun q (x ∷ y ∷ p)
    next ih k =
        let r = Memᴰ.of_map (λ l. x ∷ y ∷ l) (beginnings p) k in
        let b = ih r.0 o r.1 in
        record {
          rest = b.rest;
          some = b.some;
          is = ap (λ l. l ++ b.rest) (sym r.2) ∙ ap (λ l. x ∷ y ∷ l) b.is;
        }

-- changes, one change more, and whatever follows
pub begin_in : (s : List ℕ) (b : Transfer) (rest : List ℕ) → Even s
    → changing s b ∈ beginnings (s ++ (b.alighted ∷ b.boarded ∷ rest))
begin_in [] b rest e = here refl
begin_in (x ∷ []) b rest e = absurd e
begin_in (x ∷ y ∷ s) b rest e = there (Memᴰ.map (λ l. x ∷ y ∷ l) (begin_in s b rest e))

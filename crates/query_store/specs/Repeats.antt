-- Arcs that read the same sequence count once.
use Rattle.std.specs.Prelude.{◌≡◌, ◌⊎◌, List, [], ℕ, ◌<◌, take}
use Rattle.std.proofs.Common.{sym, subst, ◌∙◌, arith, length-take, get_or-take}
use Rattle.lists.specs.Lists.{◌∈◌}
use Rattle.lists.specs.Places.{get_d_in}
use Rattle.stores.specs.Words.{readable}
use Rattle.query_store.specs.Entries.{arc_count, arc_target}
use Rattle.query_store.specs.Paths.{arc_path, length_readable}

-- an arc before arc k reads the same sequence
pub record Repeats (s : List ℕ) (k : ℕ) : Type 0 where
  pub other : ℕ
  pub before : other < k
  pub same : arc_path s k ≡ arc_path s other

-- so it is one of the sequences before
pub repeated_in : (s : List ℕ) (k : ℕ) → Repeats s k → k < arc_count s → arc_path s k ∈ take k (readable s)
unfolding arc_path
repeated_in s k again inside =
    let j = again.other in
    let l = readable s in
    subst (λ q. q ∈ take k l) (get_or-take k l j [] again.before ∙ sym again.same)
    (get_d_in (take k l) j [] (omega (arith, again.before, length-take k l, length_readable s)))

-- arc k adds nothing for target b: it leads elsewhere, or it repeats
unfoldable pub Idle : (s : List ℕ) (b k : ℕ) → Type 0
Idle s b k = (arc_target s k ≡ b → ⊥) ⊎ Repeats s k

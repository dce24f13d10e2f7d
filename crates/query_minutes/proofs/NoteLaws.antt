-- Rides are noted one after the other.
use mathlib.Core.Path.{◌≡◌, refl, sym, ap, ◌∙◌}
use mathlib.Core.List.{List, [], ◌∷◌, ◌++◌}
use Prim.Native.Nat.{ℕ, ◌≤◌, min}
use lib.ListN.{length, get_or, set}
use lib.Seq.{set_out}
use Rattle.connections.specs.Rides.{Ride}
use Rattle.query_minutes.specs.Minutes.{noted, note_all}

module _ (best : List ℕ) (a p : ℕ) where
  pub note_past : length best ≤ a → best ≡ set best a (min (get_or best a 0) p)
  note_past h = sym (set_out best a (min (get_or best a 0) p) h)

  pub note_here : (end : List ℕ) (stood low : ℕ) → stood ≡ get_or best a 0 → low ≡ min stood p → end ≡ set best a low
      → end ≡ set best a (min (get_or best a 0) p)
  note_here end stood low is-stood is-low e = e ∙ ap (set best a) (is-low ∙ ap (λ x. min x p) is-stood)

-- some rides, then some more
pub note_all_append : (best : List ℕ) (a b : List Ride) → note_all best (a ++ b) ≡ note_all (note_all best a) b
unfolding note_all
note_all_append best [] b = refl
note_all_append best (r ∷ a) b = note_all_append (noted best r) a b

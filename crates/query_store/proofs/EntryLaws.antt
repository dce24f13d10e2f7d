-- The words that were read are those of the arc.
use mathlib.Core.Path.{◌≡◌, sym, ap, ◌∙◌}
use mathlib.Core.List.{List}
use Prim.Native.Nat.{ℕ, ◌+◌, ◌*◌, ◌<◌}
use lib.ListN.{get_or}
use Rattle.query_store.specs.Entries.{node_count, arc_count, arc_target, arc_before, target_word, before_word}

module _ (s : List ℕ) (k n r : ℕ) (h : k < arc_count s) (is-n : n ≡ node_count s) where
  pub target_read : r ≡ get_or s (2 + 3 * n + 2 * k) 0 → r ≡ arc_target s k
  target_read e = e ∙ ap (λ n. get_or s (2 + 3 * n + 2 * k) 0) is-n ∙ sym (target_word s k h)

  pub before_read : r ≡ get_or s (2 + 3 * n + 2 * k + 1) 0 → r ≡ arc_before s k
  before_read e = e ∙ ap (λ n. get_or s (2 + 3 * n + 2 * k + 1) 0) is-n ∙ sym (before_word s k h)

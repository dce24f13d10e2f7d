-- What is put into the word of a node is found there again: slot, parent and arcs are its digits.
use Rattle.std.specs.Prelude.{◌≡◌, ℕ, ◌+◌, ◌*◌, ◌/◌, ◌%◌, ◌<◌}
use Rattle.std.proofs.Math.Path.{ap}
use Rattle.std.proofs.Common.{◌∙◌}
use native.Mathlib.Omega.{arith}
use Rattle.std.proofs.Math.Arith.{digits_div, digits_mod}
use Rattle.store_tree.specs.Tree.{node_word, slot_in, parent_in, arcs_in}

module _ (s p a : ℕ) (few : s < 512) where
  by_slot : s + 512 * p + 8388608 * a ≡ (a * 16384 + p) * 512 + s
  by_slot = omega arith

  pub word_slot : slot_in (node_word s p a) ≡ s
  unfolding slot_in node_word
  word_slot = ap (λ x. x % 512) by_slot ∙ digits_mod (a * 16384 + p) few

  module _ (near : p < 16384) where
    pub word_parent : parent_in (node_word s p a) ≡ p
    unfolding parent_in node_word
    word_parent =
        ap (λ x. x / 512 % 16384) by_slot
        ∙ ap (λ x. x % 16384) (digits_div (a * 16384 + p) few)
        ∙ digits_mod a near

    by_arcs : s + 512 * p + 8388608 * a ≡ a * 8388608 + (s + 512 * p)
    by_arcs = omega arith

    pub word_arcs : arcs_in (node_word s p a) ≡ a
    unfolding arcs_in node_word
    word_arcs = ap (λ x. x / 8388608) by_arcs ∙ digits_div a (omega arith)

    -- a node that is not taken leaves room for its arcs
    pub word_low : a ≡ 0 → node_word s p a < 8388608
    unfolding node_word
    word_low e = omega arith

-- the arcs are added when the node is taken
pub word_counted : (s p a : ℕ) → node_word s p 0 + 8388608 * a ≡ node_word s p a
unfolding node_word
word_counted s p a = omega arith

-- A reply, packed: two cases, number 0 with a count, or the number of a refusal with its line, if any.
use Rattle.std.specs.Prelude.{◌≡◌, ℕ, Result, Ok, Err}
use Rattle.std.proofs.Common.{ap, ◌∙◌}
use Rattle.promises.specs.Packed.{packed, packed_reply, packed_count, packed_done, packed_refused, count_done}
use Rattle.promises.specs.Packed.{count_refused}
use Rattle.replies_packed.specs.Told.{count_told, lines_told}

module _ {R : Type 0} (number line : R → ℕ) (reply : Result ℕ R) (r : ℕ) where
  pub lines_packed : (lines : ℕ) → reply ≡ Ok lines → r ≡ packed 0 lines
      → r ≡ packed_reply (lines_told number line reply)
  lines_packed lines e f = packed_done (lines_told number line reply) r lines f (ap (lines_told number line) e)

  pub line_packed : (refused : R) (n l : ℕ) → reply ≡ Err refused → n ≡ number refused → l ≡ line refused
      → r ≡ packed n l → r ≡ packed_reply (lines_told number line reply)
  line_packed refused n l e is at f =
      packed_refused (lines_told number line reply) r (number refused) (line refused)
      (f ∙ (λ i. packed (is i) (at i))) (ap (lines_told number line) e)

module _ {R : Type 0} (number : R → ℕ) (reply : Result ℕ R) (r : ℕ) where
  pub ok_packed : (count : ℕ) → reply ≡ Ok count → r ≡ packed 0 count → r ≡ packed_count (count_told number reply)
  ok_packed count e f = count_done (count_told number reply) r count f (ap (count_told number) e)

  pub err_packed : (refused : R) (n : ℕ) → reply ≡ Err refused → n ≡ number refused → r ≡ packed n 0
      → r ≡ packed_count (count_told number reply)
  err_packed refused n e is f =
      count_refused (count_told number reply) r (number refused) (f ∙ ap (λ k. packed k 0) is)
      (ap (count_told number) e)

-- What a host of C or Rust gets in one number of 64 bits: the refusal's number in the upper half, or 0; in the lower
-- half the count, or on a refusal the line.
use Rattle.std.specs.Prelude.{◌≡◌, refl, ℕ, ◌+◌, ◌*◌, ◌<◌}
use Rattle.std.proofs.Common.{ap, ◌∙◌, add-zero, zero-add, arith}
use Rattle.reading.specs.Reply.{Reply}
use Rattle.reading.specs.Reply.{Done, Refused}
use Rattle.reading.specs.Reading.{number_of, line_of, count_of}
use Rattle.replies.specs.Reply.{Reply as Counted}
use Rattle.replies.specs.Reply.{Done as CountDone, Refused as CountRefused}
use Rattle.replies.specs.Replies.{number_of as counted_number, count_of as counted_count}

abbrev pub packed : (number low : ℕ) → ℕ
packed number low = number * 4294967296 + low

-- a reply of reading: of the count and the line one is 0
unfoldable pub packed_reply : Reply → ℕ
packed_reply r = packed (number_of r) (count_of r + line_of r)

-- the reply of a call that counts: it has no line
unfoldable pub packed_count : Counted → ℕ
packed_count r = packed (counted_number r) (counted_count r)

-- ---- only a reply with number 0 leaves the upper half empty
pub succeeds_reply : (r : Reply) → packed_reply r < 4294967296 → number_of r ≡ 0
unfolding packed_reply
succeeds_reply (Done lines) h = refl
succeeds_reply (Refused number line) h = omega arith

pub succeeds_count : (r : Counted) → packed_count r < 4294967296 → counted_number r ≡ 0
unfolding packed_count
succeeds_count (CountDone count) h = refl
succeeds_count (CountRefused number) h = omega arith

-- ---- the two cases
module _ (reply : Reply) (r : ℕ) where
  pub packed_done : (lines : ℕ) → r ≡ packed 0 lines → reply ≡ Done lines → r ≡ packed_reply reply
  unfolding packed_reply
  packed_done lines e f = e ∙ rw (f, add-zero)

  pub packed_refused : (number line : ℕ) → r ≡ packed number line → reply ≡ Refused number line
      → r ≡ packed_reply reply
  unfolding packed_reply
  packed_refused number line e f = e ∙ rw (f, zero-add)

  pub packed_same : (other : Reply) → r ≡ packed_reply reply → reply ≡ other → r ≡ packed_reply other
  packed_same other e f = e ∙ ap packed_reply f

module _ (reply : Counted) (r : ℕ) where
  pub count_done : (count : ℕ) → r ≡ packed 0 count → reply ≡ CountDone count → r ≡ packed_count reply
  unfolding packed_count
  count_done count e f = e ∙ rw f

  pub count_refused : (number : ℕ) → r ≡ packed number 0 → reply ≡ CountRefused number → r ≡ packed_count reply
  unfolding packed_count
  count_refused number e f = e ∙ rw f

  pub count_same : (other : Counted) → r ≡ packed_count reply → reply ≡ other → r ≡ packed_count other
  count_same other e f = e ∙ ap packed_count f

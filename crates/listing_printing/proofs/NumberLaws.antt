-- A number of one digit, and one more digit behind those of a number.
use mathlib.Core.Path.{◌≡◌, refl, sym, ap, ◌∙◌}
use mathlib.Core.List.{List}
use Prim.Native.Nat.{ℕ, ◌+◌, ◌/◌, ◌%◌, ◌≤◌, ◌<◌}
use native.Mathlib.Omega.{arith}
use lib.ListN.{length, set, length-set, length-append}
use Rattle.words.specs.Put.{put, put_one, put_more}
use Rattle.listing_printing.specs.Lines.{spelled, spelled_one, spelled_more}

module _ (old : List ℕ) (at n : ℕ) (room : at + length (spelled n) ≤ length old) where
  module _ (small : n < 10) where
    one_long : length (spelled n) ≡ 1
    one_long = ap length (spelled_one n small)

    pub one_room : at < length old
    one_room = omega (arith, one_long)

    pub one_end : at + 1 ≡ at + length (spelled n)
    one_end = omega (arith, one_long)

    pub one_words : set old at (48 + n) ≡ put at (spelled n) old
    one_words = put_one at old (48 + n) one_room ∙ ap (λ s. put at s old) (sym (spelled_one n small))

  module _ (large : 10 ≤ n) where
    more_long : length (spelled n) ≡ length (spelled (n / 10)) + 1
    more_long = ap length (spelled_more n large) ∙ simp length-append refl

    pub more_room : at + length (spelled (n / 10)) ≤ length old
    more_room = omega (arith, more_long)

    module _ (end : ℕ) (mid : List ℕ) (to : end ≡ at + length (spelled (n / 10)))
        (words : mid ≡ put at (spelled (n / 10)) old) (kept : length mid ≡ length old)
      where
        pub more_within : end < length mid
        more_within = omega (arith, more_long)

        pub more_end : end + 1 ≡ at + length (spelled n)
        more_end = omega (arith, more_long)

        pub more_words : set mid end (48 + n % 10) ≡ put at (spelled n) old
        more_words =
            rw (words, to, spelled_more n large)
            (put_more at (length (spelled (n / 10))) (spelled (n / 10)) old (48 + n % 10) refl
            (omega (arith, more_long)))

        pub more_kept : (b : ℕ) → length (set mid end b) ≡ length old
        more_kept b = rw length-set kept

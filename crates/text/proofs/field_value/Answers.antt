use Prim.Native.Nat.{◌<◌}
use native.Mathlib.Omega.{arith}
use borrow.Author.Rules.{rules}
use Rattle.text.specs.Number.{value_empty, value_long, value_zero, value_leading, value_digits, digits_end}
use Rattle.text.specs.Number.{digits_break, digits_more}
use Rattle.text.proofs.DigitLaws.{tens, tens_more, at_most_three}
use Rattle.text.proofs.field_value.Goals as goal

pub returns-then-n-eq0 : goal.returns-then-n-eq0
returns-then-n-eq0 c = search value_empty

pub returns-then-n-gt-DIGITS_MOST : goal.returns-then-n-gt-DIGITS_MOST
returns-then-n-gt-DIGITS_MOST c = search value_long

pub returns-then-n-eq1 : goal.returns-then-n-eq1
returns-then-n-eq1 c = search value_zero

pub returns-then-field-eq-ZERO : goal.returns-then-field-eq-ZERO
returns-then-field-eq-ZERO c = search value_leading

pub loop-b-init : goal.loop-b-init
unfolding tens
loop-b-init c = (omega arith, omega arith, search value_digits)

pub returns-then-d-ge10 : goal.returns-then-d-ge10
returns-then-d-ge10 c = search digits_break

pub overflow_mul-value : goal.overflow_mul-value
overflow_mul-value c = let small : c.loop-b.value < 1000 = search at_most_three in
    omega arith

pub overflow_add-value : goal.overflow_add-value
overflow_add-value c = let small : c.loop-b.value < 1000 = search at_most_three in
    omega arith

pub loop-b-preserved : goal.loop-b-preserved
loop-b-preserved c = (search rules, search tens_more, search digits_more)

pub returns : goal.returns
returns c = search digits_end

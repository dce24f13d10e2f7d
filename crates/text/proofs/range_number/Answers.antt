-- Fifteen ways out: for each kind the values in its range and those out of it; a kind with no range last.
use native.Mathlib.Omega.{arith}
use lib.Dec.{leb-zero}
use borrow.Author.Tests.{le-leb, lt-leb, ne_eqb}
use Rattle.text.specs.Range.{range_number, in_range}
use Rattle.text.proofs.range_number.Goals as goal

pub returns-in-0-to-240 : goal.returns-in-0-to-240
unfolding range_number in_range
returns-in-0-to-240 c = simp (c.in-1.is, leb-zero, le-leb c.args.value 240 (omega arith))

pub returns-in_default-value : goal.returns-in_default-value
unfolding range_number in_range
returns-in_default-value c = simp (c.in-1.is, leb-zero, lt-leb c.args.value 240 (omega arith))

pub returns-in-1-to-1000 : goal.returns-in-1-to-1000
unfolding range_number in_range
returns-in-1-to-1000 c = let value = c.args.value in
    simp (c.in-2.is, le-leb 1 value (omega arith), le-leb value 1000 (omega arith))

pub returns-in_default-value-2 : goal.returns-in_default-value-2
unfolding range_number in_range
returns-in_default-value-2 c = simp (c.in-2.is, lt-leb 1 c.args.value (omega arith))

pub returns-in_default-value-2-2 : goal.returns-in_default-value-2-2
unfolding range_number in_range
returns-in_default-value-2-2 c = let value = c.args.value in
    simp (c.in-2.is, le-leb 1 value (omega arith), lt-leb value 1000 (omega arith))

pub returns-in-0-to-2879 : goal.returns-in-0-to-2879
unfolding range_number in_range
returns-in-0-to-2879 c = simp (c.in-3.is, leb-zero, le-leb c.args.value 2879 (omega arith))

pub returns-in_default-value-3 : goal.returns-in_default-value-3
unfolding range_number in_range
returns-in_default-value-3 c = simp (c.in-3.is, leb-zero, lt-leb c.args.value 2879 (omega arith))

pub returns-in-0-to-100 : goal.returns-in-0-to-100
unfolding range_number in_range
returns-in-0-to-100 c = simp (c.in-4.is, leb-zero, le-leb c.args.value 100 (omega arith))

pub returns-in_default-value-4 : goal.returns-in_default-value-4
unfolding range_number in_range
returns-in_default-value-4 c = simp (c.in-4.is, leb-zero, lt-leb c.args.value 100 (omega arith))

pub returns-in-0-to-2 : goal.returns-in-0-to-2
unfolding range_number in_range
returns-in-0-to-2 c = simp (c.in-5.is, leb-zero, le-leb c.args.value 2 (omega arith))

pub returns-in_default-value-5 : goal.returns-in_default-value-5
unfolding range_number in_range
returns-in_default-value-5 c = simp (c.in-5.is, leb-zero, lt-leb c.args.value 2 (omega arith))

pub returns-in-1-to-60 : goal.returns-in-1-to-60
unfolding range_number in_range
returns-in-1-to-60 c = let value = c.args.value in
    simp (c.in-6.is, le-leb 1 value (omega arith), le-leb value 60 (omega arith))

pub returns-in_default-value-6 : goal.returns-in_default-value-6
unfolding range_number in_range
returns-in_default-value-6 c = simp (c.in-6.is, lt-leb 1 c.args.value (omega arith))

pub returns-in_default-value-6-2 : goal.returns-in_default-value-6-2
unfolding range_number in_range
returns-in_default-value-6-2 c = let value = c.args.value in
    simp (c.in-6.is, le-leb 1 value (omega arith), lt-leb value 60 (omega arith))

pub returns-in_default : goal.returns-in_default
unfolding range_number in_range
returns-in_default c = let rest = c.in_default.in_default-own.rest in
    simp (
      ne_eqb _ 1 rest.0.0.0.0.0.1,
      ne_eqb _ 2 rest.0.0.0.0.1,
      ne_eqb _ 3 rest.0.0.0.1,
      ne_eqb _ 4 rest.0.0.1,
      ne_eqb _ 5 rest.0.1,
      ne_eqb _ 6 rest.1,
    )

-- Three ways out, each by its tests.
use borrow.Author.Tests.{lt-leb, le-leb}
use Rattle.text.specs.Number.{digit_value}
use Rattle.text.proofs.digit_value.Goals as goal

pub returns-then-b-lt-ZERO : goal.returns-then-b-lt-ZERO
unfolding digit_value
returns-then-b-lt-ZERO c = simp (lt-leb _ _ c.if-b-lt-ZERO.true)

pub returns-then-b-gt-NINE : goal.returns-then-b-gt-NINE
unfolding digit_value
returns-then-b-gt-NINE c = simp (le-leb _ _ c.if-b-lt-ZERO.false, lt-leb _ _ c.if-b-gt-NINE.true)

pub returns : goal.returns
unfolding digit_value
returns c = simp (le-leb _ _ c.if-b-lt-ZERO.false, le-leb _ _ c.if-b-gt-NINE.false)

-- Four ways out, each by its tests.
use borrow.Author.Tests.{le-leb, lt-leb}
use Rattle.text_shapes.specs.Shape.{station_of}
use Rattle.text_shapes.proofs.station_line.Goals as goal

pub returns-then-number-gt-NUMBER_MOST : goal.returns-then-number-gt-NUMBER_MOST
unfolding station_of
returns-then-number-gt-NUMBER_MOST c = simp (lt-leb _ _ c.if-number-gt-NUMBER_MOST.true)

pub returns-then-minutes-gt-NUMBER_MOST : goal.returns-then-minutes-gt-NUMBER_MOST
unfolding station_of
returns-then-minutes-gt-NUMBER_MOST c = simp (
  le-leb _ _ c.if-number-gt-NUMBER_MOST.false,
  lt-leb _ _
      c.if-minutes-gt-NUMBER_MOST.true,
)

pub returns-then-points-gt-NUMBER_MOST : goal.returns-then-points-gt-NUMBER_MOST
unfolding station_of
returns-then-points-gt-NUMBER_MOST c = simp (
  le-leb _ _ c.if-number-gt-NUMBER_MOST.false,
  le-leb _ _
      c.if-minutes-gt-NUMBER_MOST.false,
  lt-leb _ _ c.if-points-gt-NUMBER_MOST.true,
)

pub returns : goal.returns
unfolding station_of
returns c = simp (
  le-leb _ _ c.if-number-gt-NUMBER_MOST.false,
  le-leb _ _ c.if-minutes-gt-NUMBER_MOST.false,
  le-leb _ _
      c.if-points-gt-NUMBER_MOST.false,
)

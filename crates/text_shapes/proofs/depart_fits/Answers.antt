-- Four ways out, each by its tests.
use borrow.Author.Tests.{le-leb, lt-leb, ne_eqb}
use Rattle.text_shapes.specs.Shape.{depart_fits}
use Rattle.text_shapes.proofs.depart_fits.Goals as goal

pub returns-then-stop-eq1 : goal.returns-then-stop-eq1
unfolding depart_fits
returns-then-stop-eq1 c = simp (c.if-depart-eq-EMPTY.true, c.if-stop-eq1.true)

pub returns-then-depart-eq-EMPTY : goal.returns-then-depart-eq-EMPTY
unfolding depart_fits
returns-then-depart-eq-EMPTY c = simp (c.if-depart-eq-EMPTY.true, ne_eqb _ _ c.if-stop-eq1.false)

pub returns-then-depart-gt-NUMBER_MOST : goal.returns-then-depart-gt-NUMBER_MOST
unfolding depart_fits
returns-then-depart-gt-NUMBER_MOST c = simp (
  ne_eqb _ _ c.if-depart-eq-EMPTY.false,
  lt-leb _ _
      c.if-depart-gt-NUMBER_MOST.true,
)

pub returns : goal.returns
unfolding depart_fits
returns c = simp (ne_eqb _ _ c.if-depart-eq-EMPTY.false, le-leb _ _ c.if-depart-gt-NUMBER_MOST.false)

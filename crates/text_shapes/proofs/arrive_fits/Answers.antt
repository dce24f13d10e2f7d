-- Two ways out: stop 1, and the others.
use borrow.Author.Tests.{ne_eqb}
use Rattle.text_shapes.specs.Shape.{arrive_fits}
use Rattle.text_shapes.proofs.arrive_fits.Goals as goal

pub returns-then-stop-eq1 : goal.returns-then-stop-eq1
unfolding arrive_fits
returns-then-stop-eq1 c = simp c.if-stop-eq1.true

pub returns : goal.returns
unfolding arrive_fits
returns c = simp (ne_eqb _ _ c.if-stop-eq1.false)

-- Two ways out.
use borrow.Author.Tests.{ne_eqb}
use Rattle.text_shapes.specs.Shape.{filled}
use Rattle.text_shapes.proofs.fill.Goals as goal

pub returns-then-value-eq-EMPTY : goal.returns-then-value-eq-EMPTY
unfolding filled
returns-then-value-eq-EMPTY c = simp c.if-value-eq-EMPTY.true

pub returns : goal.returns
unfolding filled
returns c = simp (ne_eqb _ _ c.if-value-eq-EMPTY.false)

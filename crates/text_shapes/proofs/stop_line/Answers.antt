-- Two ways out: the values are no stop line, or they are one.
use Rattle.text_shapes.specs.Shape.{unfit_shapeless, stop_shaped}
use Rattle.text_shapes.proofs.stop_line.Goals as goal

pub returns-then-not-stop_fits : goal.returns-then-not-stop_fits
returns-then-not-stop_fits c = search unfit_shapeless

pub returns : goal.returns
returns c = search stop_shaped

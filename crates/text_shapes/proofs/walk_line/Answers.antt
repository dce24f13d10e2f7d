-- Five ways out, each by its tests.
use Rattle.text_shapes.specs.Shape.{from_unfit, to_unfit, minutes_unfit, points_unfit, walk_shaped}
use Rattle.text_shapes.proofs.walk_line.Goals as goal

pub returns-then-from-gt-NUMBER_MOST : goal.returns-then-from-gt-NUMBER_MOST
returns-then-from-gt-NUMBER_MOST c = search from_unfit

pub returns-then-to-gt-NUMBER_MOST : goal.returns-then-to-gt-NUMBER_MOST
returns-then-to-gt-NUMBER_MOST c = search to_unfit

pub returns-then-minutes-gt-NUMBER_MOST : goal.returns-then-minutes-gt-NUMBER_MOST
returns-then-minutes-gt-NUMBER_MOST c = search minutes_unfit

pub returns-then-points-gt-NUMBER_MOST : goal.returns-then-points-gt-NUMBER_MOST
returns-then-points-gt-NUMBER_MOST c = search points_unfit

pub returns : goal.returns
returns c = search walk_shaped

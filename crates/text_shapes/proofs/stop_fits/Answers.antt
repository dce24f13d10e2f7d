-- Six ways out, by the tests in their order.
use Rattle.text_shapes.specs.Shape.{trip_unfit, stop_unfit, station_unfit, arrive_unfit, depart_unfit, mark_decides}
use Rattle.text_shapes.proofs.stop_fits.Goals as goal

pub returns-then-trip-gt-NUMBER_MOST : goal.returns-then-trip-gt-NUMBER_MOST
returns-then-trip-gt-NUMBER_MOST c = search trip_unfit

pub returns-then-stop-gt-NUMBER_MOST : goal.returns-then-stop-gt-NUMBER_MOST
returns-then-stop-gt-NUMBER_MOST c = search stop_unfit

pub returns-then-station-gt-NUMBER_MOST : goal.returns-then-station-gt-NUMBER_MOST
returns-then-station-gt-NUMBER_MOST c = search station_unfit

pub returns-then-not-arrive_fits : goal.returns-then-not-arrive_fits
returns-then-not-arrive_fits c = search arrive_unfit

pub returns-then-not-depart_fits : goal.returns-then-not-depart_fits
returns-then-not-depart_fits c = search depart_unfit

pub returns : goal.returns
returns c = search mark_decides

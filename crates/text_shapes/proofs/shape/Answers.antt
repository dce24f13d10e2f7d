-- The line's first byte and its count of fields choose the shape, and the array holds the values of its fields.
use Rattle.text_shapes.proofs.ShapeLaws.{too_short, no_comma, station_fields_lem, station_shape_lem, walk_fields_lem}
use Rattle.text_shapes.proofs.ShapeLaws.{walk_shape_lem, stop_fields_lem, stop_shape_lem, other_kind}
use Rattle.text_shapes.proofs.shape.Goals as goal

pub returns-then-n-lt2 : goal.returns-then-n-lt2
returns-then-n-lt2 c = search too_short

pub returns-then-line-ne-COMMA : goal.returns-then-line-ne-COMMA
returns-then-line-ne-COMMA c = search no_comma

pub returns-then-count-ne-STATION_FIELDS : goal.returns-then-count-ne-STATION_FIELDS
returns-then-count-ne-STATION_FIELDS c = search station_fields_lem

pub returns-then-kind-eq-STATION : goal.returns-then-kind-eq-STATION
returns-then-kind-eq-STATION c = search station_shape_lem

pub returns-then-count-ne-WALK_FIELDS : goal.returns-then-count-ne-WALK_FIELDS
returns-then-count-ne-WALK_FIELDS c = search walk_fields_lem

pub returns-then-kind-eq-WALK : goal.returns-then-kind-eq-WALK
returns-then-kind-eq-WALK c = search walk_shape_lem

pub returns-then-count-ne-STOP_FIELDS : goal.returns-then-count-ne-STOP_FIELDS
returns-then-count-ne-STOP_FIELDS c = search stop_fields_lem

pub returns-then-kind-eq-STOP : goal.returns-then-kind-eq-STOP
returns-then-kind-eq-STOP c = search stop_shape_lem

pub returns : goal.returns
returns c = search other_kind

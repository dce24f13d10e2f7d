-- Four ways out, by the line's kind and the field's place.
use Rattle.text_shapes.specs.Values.{value_other_kind, value_arrive, value_depart, value_other_field}
use Rattle.text_shapes.proofs.value_at.Goals as goal

pub returns-then-kind-ne-STOP : goal.returns-then-kind-ne-STOP
returns-then-kind-ne-STOP c = search value_other_kind

pub returns-then-k-eq-ARRIVE : goal.returns-then-k-eq-ARRIVE
returns-then-k-eq-ARRIVE c = search value_arrive

pub returns-then-k-eq-DEPART : goal.returns-then-k-eq-DEPART
returns-then-k-eq-DEPART c = search value_depart

pub returns : goal.returns
returns c = search value_other_field

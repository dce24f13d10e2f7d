-- The station of the arrival has its own flag.
use Rattle.store_marks.proofs.ArrivalLaws.{arrival_some, arrival_wide, arc_room, arc_tried}
use Rattle.store_marks.proofs.mark_end.Goals as goal

pub overflow_sub-b : goal.overflow_sub-b
overflow_sub-b c = search arrival_some

pub points_at-requires : goal.points_at-requires
points_at-requires c = search arrival_wide

pub raise-requires : goal.raise-requires
raise-requires c = search arc_room

pub returns-clause-arcs_after : goal.returns-clause-arcs_after
returns-clause-arcs_after c = search arc_tried

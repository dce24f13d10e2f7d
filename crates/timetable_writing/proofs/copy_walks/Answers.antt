-- The words of the walks stand one behind the other.
use Rattle.timetable_writing.proofs.CopyLaws.{all_walks, walks_inside, walks_room, walks_copied}
use Rattle.timetable_writing.proofs.copy_walks.Goals as goal

pub slice_bounds-copy-end : goal.slice_bounds-copy-end
slice_bounds-copy-end c = search walks_inside

pub copy-requires : goal.copy-requires
copy-requires c = search walks_room

pub returns-clause-walking_after : goal.returns-clause-walking_after
returns-clause-walking_after c = search walks_copied

pub returns-clause-value : goal.returns-clause-value
returns-clause-value c = search all_walks

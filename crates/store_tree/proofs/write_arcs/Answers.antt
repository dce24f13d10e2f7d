use Rattle.store_slots.specs.Writing.{writing_first}
use Rattle.store_tree.proofs.LayLaws.{station_room, station_more, stations_done}
use borrow.Author.Rules.{rules}
use Rattle.store_tree.proofs.write_arcs.Goals as goal

pub loop-b-init : goal.loop-b-init
loop-b-init c = (search rules, search writing_first)

pub write_arcs_to-here-requires : goal.write_arcs_to-here-requires
write_arcs_to-here-requires c = (
  search rules,
  search rules,
  search rules,
  search rules,
  search rules,
  search station_room,
)

pub loop-b-preserved : goal.loop-b-preserved
loop-b-preserved c = (search rules, search station_more)

pub returns-clause-store_after : goal.returns-clause-store_after
returns-clause-store_after c = search stations_done

use Prim.Native.Nat.{◌-◌}
use borrow.Author.Rules.{rules}
use Rattle.lines_alone.proofs.NumberLaws.{number_small}
use Rattle.lines_alone.proofs.CountLaws.{stops_first, stops_more, stops_counted}
use Rattle.lines_alone.proofs.count_stops.Goals as goal

pub loop-z-init : goal.loop-z-init
loop-z-init c = (search rules, search rules, search stops_first)

pub home_of-home-requires : goal.home_of-home-requires
home_of-home-requires c = (search rules, search rules, search rules, search number_small)

pub loop-z-preserved : goal.loop-z-preserved
loop-z-preserved c = (search rules, search rules, search stops_more)

pub returns : goal.returns
returns c = search stops_counted

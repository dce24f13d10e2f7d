use mathlib.Core.Path.{refl}
use borrow.Author.Rules.{rules}
use Rattle.query_shown.proofs.ChooseLaws.{sized_told, trips_few, trips_more, trips_done}
use Rattle.query_shown.proofs.rides.choose_trips.Goals as goal

pub loop-j-init : goal.loop-j-init
loop-j-init c = (search trips_few, search rules, refl)

pub try_onto-best-requires : goal.try_onto-best-requires
try_onto-best-requires c = (search rules, search sized_told)

pub loop-j-preserved : goal.loop-j-preserved
loop-j-preserved c = (search rules, search rules, search trips_more)

pub returns : goal.returns
returns c = (search trips_done, search rules)

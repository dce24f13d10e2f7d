use Prim.Native.Nat.{◌-◌}
use borrow.Author.Rules.{rules}
use Rattle.lines_found.proofs.GlanceLaws.{opened_none, opened_more, opened_all}
use Rattle.lines_found.proofs.GlanceLaws.{second_there, third_there, fourth_there}
use Rattle.lines_found.proofs.open_chains.Goals as goal

pub loop-b-init : goal.loop-b-init
loop-b-init c = (search rules, search rules, search opened_none)

pub bounds-chains-b-in-loop-b : goal.bounds-chains-b-in-loop-b
bounds-chains-b-in-loop-b c = search (rules, second_there)

pub bounds-chains-b-in-loop-b-2 : goal.bounds-chains-b-in-loop-b-2
bounds-chains-b-in-loop-b-2 c = search (rules, third_there)

pub bounds-chains-b-in-loop-b-3 : goal.bounds-chains-b-in-loop-b-3
bounds-chains-b-in-loop-b-3 c = search (rules, fourth_there)

pub loop-b-preserved : goal.loop-b-preserved
loop-b-preserved c = (search rules, search rules, search opened_more)

pub returns-clause-opened_to : goal.returns-clause-opened_to
returns-clause-opened_to c = search opened_all

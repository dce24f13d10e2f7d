use borrow.Author.Rules.{rules}
use Rattle.store_frontier.specs.Front.{fronting_all}
use Rattle.store_frontier.proofs.FrontLaws.{end_most, end_nearer, end_behind, run_from, minute_held, run_ordered}
use Rattle.store_frontier.proofs.FrontLaws.{front_first, front_out, front_minute, arrival_inside, arrival_stop}
use Rattle.store_frontier.proofs.allow_station.Goals as goal

pub loop-p-init : goal.loop-p-init
loop-p-init c = (search rules, (search run_ordered, (search rules, search front_first)))

pub leave_out-requires : goal.leave_out-requires
leave_out-requires c = (search arrival_inside, search arrival_stop)

pub loop-p-preserved-then-leave_out : goal.loop-p-preserved-then-leave_out
loop-p-preserved-then-leave_out c = (search rules, (search rules, (search rules, search front_out)))

pub minute_end-q-requires : goal.minute_end-q-requires
minute_end-q-requires c = (search rules, search rules, search run_from, search rules)

pub least-low-requires : goal.least-low-requires
least-low-requires c = (search minute_held, search rules)

pub mark_all-requires : goal.mark_all-requires
mark_all-requires c = (search minute_held, search rules)

pub loop-p-smaller : goal.loop-p-smaller
loop-p-smaller c = search end_nearer

pub loop-p-preserved : goal.loop-p-preserved
loop-p-preserved c = (search end_behind, (search end_most, (search rules, search front_minute)))

pub returns-clause-fronted : goal.returns-clause-fronted
returns-clause-fronted c = search fronting_all

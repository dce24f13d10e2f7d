use Rattle.query_arcs.specs.Merged.{merging_first, merging_skip}
use Rattle.query_arcs.specs.Merged.{merging_turn, merging_all, merging_blank}
use borrow.Author.Rules.{rules}
use Rattle.query_arcs.proofs.merge.Goals as goal

pub loop-m-init : goal.loop-m-init
loop-m-init c = (search rules, search rules, search rules, search merging_first)

pub loop-m-preserved-then-same : goal.loop-m-preserved-then-same
loop-m-preserved-then-same c = (search rules, search rules, search rules, search merging_skip)

pub loop-m-preserved : goal.loop-m-preserved
loop-m-preserved c = (search rules, search rules, search rules, search merging_turn)

pub returns-clause-merged : goal.returns-clause-merged
returns-clause-merged c = (search merging_all, search merging_blank)

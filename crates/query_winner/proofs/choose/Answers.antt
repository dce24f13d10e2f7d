use Prim.Native.Nat.{◌-◌}
use Rattle.query_arcs.specs.Arcs.{store_words, store_made, counted_target}
use Rattle.query_winner.specs.Trying.{first_sized, tried_first, tried_idle}
use Rattle.query_winner.specs.Leader.{tried_leader}
use borrow.Author.Rules.{rules}
use Rattle.query_winner.proofs.choose.Goals as goal

pub arc_count-arcs-requires : goal.arc_count-arcs-requires
arc_count-arcs-requires c = search store_words

pub loop-k-init : goal.loop-k-init
loop-k-init c = (search rules, search rules, search rules, search first_sized, search tried_first)

pub counts-requires : goal.counts-requires
counts-requires c = (search store_made, search rules)

pub loop-k-preserved-then-not-counts : goal.loop-k-preserved-then-not-counts
loop-k-preserved-then-not-counts c = (
  search rules,
  search rules,
  search rules,
  search rules,
  search
      tried_idle,
)

pub try_arc-x-requires : goal.try_arc-x-requires
try_arc-x-requires c = (
  search rules,
  search rules,
  search rules,
  search rules,
  search counted_target,
  search rules,
  search rules,
  search rules,
  search rules,
  search rules,
)

pub returns-clause-leader : goal.returns-clause-leader
returns-clause-leader c = search tried_leader

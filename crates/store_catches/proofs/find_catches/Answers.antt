use Rattle.store_catches.proofs.CatchLaws.{caught_start, number_is, number_few, arrives_few, arrives_listed}
use Rattle.store_catches.proofs.CatchLaws.{arrives_first, arrives_near, arrives_in_time, caught_more, all_caught}
use borrow.Author.Rules.{rules}
use Rattle.store_catches.proofs.find_catches.Goals as goal

pub loop-k-init : goal.loop-k-init
loop-k-init c = (
  search number_is,
  search number_few,
  search rules,
  caught_start _ _ (λ j. (c.slice_known-1.given j).fits),
)

pub catch_at-requires : goal.catch_at-requires
catch_at-requires c = (
  search rules,
  search rules,
  search rules,
  search arrives_few,
  search arrives_first,
  search arrives_near,
  search arrives_in_time,
)

pub bounds-catches-j : goal.bounds-catches-j
bounds-catches-j c = search arrives_listed

pub loop-k-preserved : goal.loop-k-preserved
loop-k-preserved c = (search rules, search rules, search rules, search caught_more)

pub returns-clause-caught : goal.returns-clause-caught
returns-clause-caught c = search all_caught

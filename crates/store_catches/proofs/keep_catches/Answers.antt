use borrow.Author.Rules.{rules}
use Rattle.store_catches.proofs.CatchLaws.{number_is, number_few, listed_all, place_held, arrives}
use Rattle.store_catches.proofs.KeepLaws.{kept_start, kept_more, keeps_chain, end_low, end_high}
use Rattle.store_catches.proofs.KeepLaws.{same_long, all_kept}
use Rattle.store_catches.proofs.keep_catches.Goals as goal

pub index_at-n-requires : goal.index_at-n-requires
index_at-n-requires c = search listed_all

pub loop-k-init : goal.loop-k-init
loop-k-init c = (
  search number_is,
  search number_few,
  search rules,
  search rules,
  search rules,
  search kept_start,
)

pub word-requires : goal.word-requires
word-requires c = search place_held

pub keep_arrival-at-requires : goal.keep_arrival-at-requires
keep_arrival-at-requires c = (search rules, search rules, search rules, search arrives, search rules, search rules)

pub loop-k-preserved : goal.loop-k-preserved
loop-k-preserved c = (
  search rules,
  search rules,
  search end_low,
  search end_high,
  search keeps_chain,
  search kept_more,
)

pub shape_of-chain : goal.shape_of-chain
shape_of-chain c = search same_long

pub returns-clause-kept_all : goal.returns-clause-kept_all
returns-clause-kept_all c = search all_kept

use borrow.Author.Rules.{rules}
use Rattle.store_catches.proofs.KeepLaws.{none_kept, place_fits, place_inside, one_kept, walks_kept}
use Rattle.store_catches.proofs.KeepLaws.{front_same, front_further, still_standing, still_long}
use Rattle.store_catches.proofs.keep_walks.Goals as goal

pub loop-k-init : goal.loop-k-init
loop-k-init c = (search rules, search none_kept, search front_same)

pub overflow_add-chain : goal.overflow_add-chain
overflow_add-chain c = record { fits = search place_fits }

pub bounds-chain-base : goal.bounds-chain-base
bounds-chain-base c = search place_inside

pub loop-k-preserved : goal.loop-k-preserved
loop-k-preserved c = (search still_standing, search one_kept, search front_further)

pub returns-clause-kept_walks : goal.returns-clause-kept_walks
returns-clause-kept_walks c = search walks_kept

pub returns-clause-chain_len : goal.returns-clause-chain_len
returns-clause-chain_len c = search still_long

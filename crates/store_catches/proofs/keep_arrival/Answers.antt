-- Either there is no room, and the word of the stop says so, or the walks from its station are written.
use borrow.Author.Rules.{rules}
use Rattle.timetable.specs.Access.{stations_few, trips_few, stops_few}
use Rattle.store_catches.proofs.KeepLaws.{arrival_few, word_fits, word_scaled, word_held, word_standing}
use Rattle.store_catches.proofs.KeepLaws.{here_some, here_most, before_most, walks_ordered, walks_most_lem}
use Rattle.store_catches.proofs.KeepLaws.{begin_low, base_begins, base_ends}
use Rattle.store_catches.proofs.KeepLaws.{keeps_all, keeps_none}
use Rattle.store_catches.proofs.keep_arrival.Goals as goal

pub stop_at-c-requires : goal.stop_at-c-requires
stop_at-c-requires c = (search rules, search stations_few, search arrival_few)

pub overflow_sub-c : goal.overflow_sub-c
overflow_sub-c c = search here_some

pub walks_to-begin-requires : goal.walks_to-begin-requires
walks_to-begin-requires c = (search rules, search stations_few, search trips_few, search stops_few, search before_most)

pub walks_to-end-requires : goal.walks_to-end-requires
walks_to-end-requires c = (search rules, search stations_few, search trips_few, search stops_few, search here_most)

pub overflow_sub-end : goal.overflow_sub-end
overflow_sub-end c = search walks_ordered

pub overflow_add-chain : goal.overflow_add-chain
overflow_add-chain c = record { fits = search word_fits }

pub offset_bounds-chain-j : goal.offset_bounds-chain-j
offset_bounds-chain-j c = record { fits = search word_scaled }

pub bounds-chain-j : goal.bounds-chain-j
bounds-chain-j c = search word_held

pub returns-then-at-end-gt-CHAIN_WORDS : goal.returns-then-at-end-gt-CHAIN_WORDS
returns-then-at-end-gt-CHAIN_WORDS c = search keeps_none

pub overflow_sub-base : goal.overflow_sub-base
overflow_sub-base c = search begin_low

pub overflow_add-chain-2 : goal.overflow_add-chain-2
overflow_add-chain-2 c = record { fits = search word_fits }

pub offset_bounds-chain-j-2 : goal.offset_bounds-chain-j-2
offset_bounds-chain-j-2 c = record { fits = search word_scaled }

pub bounds-chain-j-2 : goal.bounds-chain-j-2
bounds-chain-j-2 c = search word_held

pub keep_walks-requires : goal.keep_walks-requires
keep_walks-requires c = (
  search rules,
  search rules,
  search word_standing,
  search rules,
  search walks_ordered,
  search walks_most_lem,
  search base_begins,
  search base_ends,
)

pub returns : goal.returns
returns c = search keeps_all

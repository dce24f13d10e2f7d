-- It is kept, or looked for.
use borrow.Author.Rules.{rules}
use Rattle.store_departures.specs.Held.{held_standing}
use Rattle.store_catches.proofs.KeepLaws.{word_fits, word_there, from_listed, kept_fits}
use Rattle.store_catches.proofs.KeepLaws.{kept_inside, kept_caught}
use Rattle.store_catches.proofs.caught_on_foot.Goals as goal

pub overflow_add-j : goal.overflow_add-j
overflow_add-j c = record { fits = search word_fits }

pub word-base-requires : goal.word-base-requires
word-base-requires c = search word_there

pub seek_on_foot-requires : goal.seek_on_foot-requires
seek_on_foot-requires c = (search rules, search rules, search held_standing, search rules, search from_listed)

pub overflow_add-base : goal.overflow_add-base
overflow_add-base c = record { fits = search kept_fits }

pub word-requires : goal.word-requires
word-requires c = search kept_inside

pub returns : goal.returns
returns c = search kept_caught

-- The store that was made last is the one that is asked for, or that one is made.
use Rattle.listing_stores.proofs.MakeLaws.{kept_number, kept_store}
use borrow.Author.Rules.{rules}
use Rattle.listing_stores.proofs.stored.Goals as goal

pub returns-then-last-source : goal.returns-then-last-source
returns-then-last-source c = (search rules, search kept_number, search kept_store, search rules)

-- The number of the store call, or what is shown from the store.
use Rattle.listing_stores.proofs.ShownLaws.{second_count, second_words}
use borrow.Author.Rules.{rules}
use Rattle.listing_stores.proofs.show_made.Goals as goal

pub returns-then-number-ne0 : goal.returns-then-number-ne0
returns-then-number-ne0 c = (search second_count, search second_words, search rules, search rules)

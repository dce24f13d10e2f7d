-- The comma, and the number behind it.
use borrow.Author.Rules.{rules}
use Rattle.listing_printing.proofs.LineLaws.{field_room, field_end, field_most, field_words}
use Rattle.listing_printing.proofs.put_field.Goals as goal

pub put_number-requires : goal.put_number-requires
put_number-requires c = search field_room

pub returns-clause-value : goal.returns-clause-value
returns-clause-value c = (search field_end, search field_words, search rules)

pub returns-clause-upper_bound : goal.returns-clause-upper_bound
returns-clause-upper_bound c = search field_most

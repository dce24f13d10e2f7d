-- The line of the query, and its rows behind it.
use Rattle.listing_stores.proofs.PrintLaws.{rows_end, rows_words}
use borrow.Author.Rules.{rules}
use Rattle.listing_stores.proofs.answer_lines.Goals as goal

pub returns : goal.returns
returns c = (search rows_end, search rows_words, search rules, search rules)

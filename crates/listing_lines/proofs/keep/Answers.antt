-- A byte is put after those kept, or the line is full.
use Rattle.listing_lines.proofs.ByteLaws.{kept_more, kept_full}
use borrow.Author.Rules.{rules}
use Rattle.listing_lines.proofs.keep.Goals as goal

pub returns-then-kept-lt-LINE_BYTES : goal.returns-then-kept-lt-LINE_BYTES
returns-then-kept-lt-LINE_BYTES c = (search kept_more, search rules, search rules)

pub returns : goal.returns
returns c = (search kept_full, search rules, search rules)

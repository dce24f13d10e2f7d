-- No bytes print nothing, and any others what a misshapen line prints.
use Rattle.listing_input.proofs.EndLaws.{none_ends, none_kept, some_ends, some_written}
use borrow.Author.Rules.{rules}
use Rattle.listing_input.proofs.answer_end.Goals as goal

pub returns-then-bytes-eq0 : goal.returns-then-bytes-eq0
returns-then-bytes-eq0 c = (search none_ends, search none_kept, search rules, search rules)

pub returns : goal.returns
returns c = (search some_ends, search some_written, search rules, search rules)

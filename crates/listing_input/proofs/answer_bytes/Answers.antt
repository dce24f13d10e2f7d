-- A line that has ended is answered; of one that has not the bytes are kept.
use Rattle.listing_output.specs.Bytes.{prints_none, prints_line}
use borrow.Author.Rules.{rules}
use Rattle.listing_input.proofs.answer_bytes.Goals as goal

pub returns-then-not-cut-clause-prints : goal.returns-then-not-cut-clause-prints
returns-then-not-cut-clause-prints c = (search prints_none, search rules, search rules, search rules)

pub returns-clause-prints : goal.returns-clause-prints
returns-clause-prints c = (search prints_line, search rules, search rules, search rules)

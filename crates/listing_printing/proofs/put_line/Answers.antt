use borrow.Author.Rules.{rules}
use Rattle.listing_printing.proofs.LineLaws.{line_place_lem, line_words_lem, line_end_lem, line_whole}
use Rattle.listing_printing.proofs.put_line.Goals as goal

pub loop-n-preserved : goal.loop-n-preserved
loop-n-preserved c = (search rules, (search rules, (search line_place_lem, search line_words_lem)))

pub returns-clause-value : goal.returns-clause-value
returns-clause-value c = (search line_end_lem, search line_whole, search rules)

use borrow.Author.Rules.{rules}
use Rattle.lines_check.proofs.SameLaws.{counted_none, counted_more, counted_all}
use Rattle.lines_check.proofs.same_words.Goals as goal

pub loop-i-init : goal.loop-i-init
loop-i-init c = (search rules, search rules, search counted_none)

pub loop-i-preserved : goal.loop-i-preserved
loop-i-preserved c = (search rules, search rules, search counted_more)

pub returns : goal.returns
returns c = search counted_all

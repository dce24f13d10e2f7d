use borrow.Author.Rules.{rules}
use Rattle.lines_lookup.proofs.LookupLaws.{none_after, found_after, passed_over}
use Rattle.lines_lookup.proofs.calls_after.Goals as goal

pub loop-k-preserved : goal.loop-k-preserved
loop-k-preserved c = (search rules, search passed_over)

pub returns-after-loop-k : goal.returns-after-loop-k
returns-after-loop-k c = (search none_after, search rules)

pub returns-then-is_later : goal.returns-then-is_later
returns-then-is_later c = (search found_after, search rules)

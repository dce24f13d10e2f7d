use borrow.Author.Rules.{rules}
use Rattle.query_kept.proofs.KeepLaws.{all_begins, all_more, all_done}
use Rattle.query_kept.proofs.rides.keep_all.Goals as goal

pub loop-k-init : goal.loop-k-init
loop-k-init c = (search rules, search rules, search rules, search rules, search rules, search all_begins)

pub loop-k-preserved : goal.loop-k-preserved
loop-k-preserved c = (search rules, search rules, search rules, search rules, search rules, search all_more)

pub returns-clause-kept_after : goal.returns-clause-kept_after
returns-clause-kept_after c = search all_done

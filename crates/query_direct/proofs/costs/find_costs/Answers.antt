-- The penalties are noted where none was noted before, and then counted.
use Rattle.query_direct.proofs.ShownLaws.{best_found, count_found}
use borrow.Author.Rules.{rules}
use Rattle.query_direct.proofs.costs.find_costs.Goals as goal

pub returns : goal.returns
returns c = (search best_found, search count_found, search rules, search rules)

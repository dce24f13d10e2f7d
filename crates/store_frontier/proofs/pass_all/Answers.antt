use borrow.Author.Rules.{rules}
use Rattle.store_frontier.proofs.PassLaws.{pass_timely, pass_next, pass_last}
use Rattle.store_frontier.proofs.pass_all.Goals as goal

pub pass-requires : goal.pass-requires
pass-requires c = (
  search rules,
  search rules,
  search rules,
  search pass_timely,
  search rules,
  search rules,
  search rules,
  search rules,
  search pass_next,
)

pub returns-clause-passed : goal.returns-clause-passed
returns-clause-passed c = search pass_last

-- What was not found does not win, the first found does, and else the keys decide.
use Rattle.query_winner.specs.Trying.{wins_none, wins_first, in_time_lem, wins_key}
use borrow.Author.Rules.{rules}
use Rattle.query_winner.proofs.wins.Goals as goal

pub returns-then-not-f : goal.returns-then-not-f
returns-then-not-f c = search wins_none

pub returns-then-not-x : goal.returns-then-not-x
returns-then-not-x c = search wins_first

pub goes_before-requires : goal.goes_before-requires
goes_before-requires c = (search in_time_lem, search in_time_lem, search rules, search rules, search rules)

pub returns : goal.returns
returns c = search wins_key

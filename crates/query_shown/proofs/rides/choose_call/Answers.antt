-- Where there is a place to ride to that can be paid, the rides to it are tried; else there are none to take.
use borrow.Author.Rules.{rules}
use Rattle.query_shown.proofs.ChooseLaws.{call_none, call_dear, call_tried}
use Rattle.query_shown.proofs.rides.choose_call.Goals as goal

pub returns-in_default : goal.returns-in_default
returns-in_default c = (search call_none, search rules)

pub returns-then-less : goal.returns-then-less
returns-then-less c = (search call_dear, search rules)

pub returns : goal.returns
returns c = (search call_tried, search rules)

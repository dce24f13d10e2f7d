use borrow.Author.Rules.{rules}
use Rattle.store_frontier.specs.Front.{minute_first, minute_more, minute_end}
use Rattle.store_frontier.proofs.FrontLaws.{first_place_lem, minute_last, first_stop, next_place, next_stop}
use Rattle.store_frontier.proofs.minute_end.Goals as goal

pub minute_at-minute-requires : goal.minute_at-minute-requires
minute_at-minute-requires c = (search rules, search rules, search first_place_lem, search first_stop)

pub loop-q-init : goal.loop-q-init
loop-q-init c = (search rules, search minute_first)

pub minute_at-requires : goal.minute_at-requires
minute_at-requires c = (search rules, search rules, search next_place, search next_stop)

pub loop-q-preserved : goal.loop-q-preserved
loop-q-preserved c = (search rules, search minute_more)

pub returns-then-minute_at-minute : goal.returns-then-minute_at-minute
returns-then-minute_at-minute c = search minute_end

pub returns : goal.returns
returns c = search minute_last

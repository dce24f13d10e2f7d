-- Each turn takes the next three words, and the last way out has fewer left.
use borrow.Author.Rules.{rules}
use Rattle.listing_printing.proofs.LineLaws.{short_at, short_out, all_at, all_out, room_left}
use Rattle.listing_printing.proofs.LineLaws.{cost_at_lem, cost_out, ride_at_lem, ride_out}
use Rattle.listing_printing.proofs.put_rows.Goals as goal

pub returns-then-left-eq0-clause-value : goal.returns-then-left-eq0-clause-value
returns-then-left-eq0-clause-value c =
    let steps = c.in-Some.ensures.steps in
    (search all_at, search all_out, search rules)

pub loop-words-preserved-then-rides-eq0 : goal.loop-words-preserved-then-rides-eq0
loop-words-preserved-then-rides-eq0 c =
    let steps = c.in-Some.ensures.steps in
    (search rules, search rules, search room_left, search cost_at_lem, search cost_out)

pub loop-words-preserved : goal.loop-words-preserved
loop-words-preserved c =
    let steps = c.in-Some.ensures.steps in
    (search rules, search rules, search room_left, search ride_at_lem, search ride_out)

pub returns-clause-value : goal.returns-clause-value
returns-clause-value c =
    let steps = c.in-None.ensures.steps in
    (search short_at, search short_out, search rules)

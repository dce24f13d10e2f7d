use borrow.Author.Rules.{rules}
use Rattle.query_rides.proofs.CursorLaws.{near_calls_none, near_past, near_late, near_found}
use Rattle.query_rides.proofs.seek_call.Goals as goal

pub loop-k-preserved-in_default : goal.loop-k-preserved-in_default
loop-k-preserved-in_default c = (search rules, search rules, search rules, search rules, search near_past)

pub returns-then-first-g : goal.returns-then-first-g
returns-then-first-g c = (search near_found, search rules)

pub loop-k-preserved : goal.loop-k-preserved
loop-k-preserved c = (search rules, search rules, search rules, search rules, search near_late)

pub returns : goal.returns
returns c = let inv = c.loop-k.invariant in
    let last = c.loop-k-test.false in
    (near_calls_none _ _ _ _ _ _ inv.4 last, search rules)

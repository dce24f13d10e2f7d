use Prim.Native.Nat.{◌-◌}
use Rattle.lines_turned.proofs.TurnLaws.{line_few, front_inside, front_differs, front_agrees, line_fits, lines_differ}
use Rattle.lines_turned.proofs.TurnLaws.{lines_agree, lists_order, lists_inside, lists_decide}
use borrow.Author.Rules.{rules}
use Rattle.lines_turned.proofs.is_turned.Goals as goal

pub same_part-requires : goal.same_part-requires
same_part-requires c = (search rules, search front_inside, search front_inside)

pub returns-then-not-same_part : goal.returns-then-not-same_part
returns-then-not-same_part c = search front_differs

pub loop-i-init : goal.loop-i-init
loop-i-init c = (search rules, search front_agrees)

pub long_line-requires : goal.long_line-requires
long_line-requires c = search line_few

pub same_line-requires : goal.same_line-requires
same_line-requires c = (search line_fits, search rules, search rules)

pub returns-then-not-same_line : goal.returns-then-not-same_line
returns-then-not-same_line c = search lines_differ

pub loop-i-preserved : goal.loop-i-preserved
loop-i-preserved c = (search rules, search lines_agree)

pub same_part-requires-2 : goal.same_part-requires-2
same_part-requires-2 c = (search lists_order, search lists_inside, search lists_inside)

pub returns : goal.returns
returns c = search lists_decide

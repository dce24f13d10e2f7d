use Prim.Native.Nat.{◌-◌}
use Rattle.lines_turned.proofs.TurnLaws.{front_inside, line_fits, line_more, lists_order, lists_inside, all_written}
use borrow.Author.Rules.{rules}
use Rattle.lines_turned.proofs.write_turned.Goals as goal

pub copy_part-requires : goal.copy_part-requires
copy_part-requires c = (search rules, search front_inside, search front_inside)

pub write_line-requires : goal.write_line-requires
write_line-requires c = (search line_fits, search rules, search rules)

pub loop-i-preserved : goal.loop-i-preserved
loop-i-preserved c = let more =
    line_more _ _ c.requires.1 _ _ _ c.loop-i.invariant.3 _ c.peek-count.ensures.0 _ _ (search rules)
    c.loop-i.invariant.2 c.line_at.ensures.value c.write_line.ensures.out_after in
    (search rules, search rules, search rules, more)

pub copy_part-requires-2 : goal.copy_part-requires-2
copy_part-requires-2 c = (search lists_order, search lists_inside, search lists_inside)

pub returns-clause-other_after : goal.returns-clause-other_after
returns-clause-other_after c = search all_written

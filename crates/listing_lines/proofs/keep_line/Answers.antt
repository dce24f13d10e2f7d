use Prim.Native.Nat.{◌-◌}
use Rattle.listing_output.specs.Bytes.{keeps_none, keeps_more, keeps_line, keeps_all}
use borrow.Author.Rules.{rules}
use Rattle.listing_lines.proofs.keep_line.Goals as goal

pub loop-i-init : goal.loop-i-init
loop-i-init c = (search rules, search rules, search rules, search rules, search keeps_none)

pub returns-then-b-eq-LINE_END : goal.returns-then-b-eq-LINE_END
returns-then-b-eq-LINE_END c = (search keeps_line, search rules, search rules, search rules)

pub loop-i-preserved : goal.loop-i-preserved
loop-i-preserved c = (search rules, search rules, search rules, search rules, search keeps_more)

pub returns : goal.returns
returns c = (search keeps_all, search rules, search rules, search rules)

use mathlib.Core.Path.{ap}
use mathlib.Core.Bool.{not}
use Rattle.lines_check.proofs.AskedLaws.{first_unlisted, second_unlisted, both_listed}
use Rattle.lines_check.proofs.are_named.Goals as goal

pub returns-then-not-is_listed : goal.returns-then-not-is_listed
returns-then-not-is_listed c = search first_unlisted

pub returns-then-not-is_listed-2 : goal.returns-then-not-is_listed-2
returns-then-not-is_listed-2 c = search second_unlisted

pub returns : goal.returns
returns c = let a = c.args in
    both_listed a.words.now a.from a.to c.is_listed.result c.is_listed-2.result
    c.is_listed.ensures (ap not c.if-not-is_listed.false) c.is_listed-2.ensures (ap not c.if-not-is_listed-2.false)

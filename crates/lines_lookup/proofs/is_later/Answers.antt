-- Lines first, then places.
use Rattle.std.proofs.Common.{arith, ◌∙◌}
use Rattle.std.proofs.lemmas.Bool.Decides.{nat_tests}
use Rattle.lines_lookup.specs.Calls.{later}
use Rattle.lines_lookup.proofs.is_later.Goals as goal

pub returns : goal.returns
unfolding later
returns c = c.lt.ensures ∙ grind (arith, nat_tests)

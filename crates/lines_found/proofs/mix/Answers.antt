use mathlib.Core.Path.{refl}
use Rattle.lines_found.specs.Glance.{mixed, mixed_few}
use Rattle.lines_found.proofs.mix.Goals as goal

pub returns : goal.returns
unfolding mixed
returns c = (refl, search mixed_few)

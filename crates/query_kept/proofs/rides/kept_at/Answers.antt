-- Four words are read, one after the other.
use mathlib.Core.Path.{refl}
use Rattle.query_kept.specs.Keeping.{kept_at}
use Rattle.query_kept.proofs.rides.kept_at.Goals as goal

pub returns : goal.returns
unfolding kept_at
returns c = refl

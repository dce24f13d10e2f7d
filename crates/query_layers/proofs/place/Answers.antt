-- A span has at most 2,880 minutes, and a path 64 rides.
use mathlib.Core.Path.{sym}
use native.Mathlib.Omega.{arith}
use Rattle.query_layers.specs.Layers.{width_few}
use Rattle.query_layers.proofs.LayerLaws.{place_is}
use Rattle.query_layers.proofs.place.Goals as goal

pub overflow_mul-result : goal.overflow_mul-result
overflow_mul-result c = let h = width_few c.args.minute c.args.v c.args.low c.args.i c.requires.1 c.requires.3 in
    record { fits = omega arith }

pub returns : goal.returns
returns c = (
  sym (place_is c.args.minute c.args.v c.args.low c.args.i),
  width_few c.args.minute c.args.v c.args.low c.args.i c.requires.1 c.requires.3,
)

-- The words of the window are copied; all others are the same in both slices.
use mathlib.Core.Path.{ap}
use native.Mathlib.Omega.{arith}
use borrow.Author.Rules.{rules}
use lib.ListN.{get_or}
use Rattle.query_minutes.specs.Minutes.{no_points}
use Rattle.query_rests.specs.Spans.{stored_copy}
use Rattle.query_rests.proofs.RestLaws.{kept}
use Rattle.query_rests.proofs.keep.Goals as goal

pub returns-clause-after : goal.returns-clause-after
returns-clause-after c =
    kept _ _ _ _ c.requires.3 c.requires.2 _
    (stored_copy _ _ c.args.minute _ _ _ _ _ _ c.copy_from_slice.ensures.after (search rules) (search rules)
    (search rules) (search rules) (λ m h g. ap (λ i. get_or c.args.z.now i no_points) (omega arith)))
    (search rules)

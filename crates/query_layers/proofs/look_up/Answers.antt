-- All words of the window are copied at once.
use mathlib.Core.Path.{refl}
use borrow.Author.Rules.{rules}
use Rattle.query_rests.specs.Spans.{stored_copy}
use Rattle.query_layers.proofs.look_up.Goals as goal

pub returns-clause-stored : goal.returns-clause-stored
returns-clause-stored c =
    stored_copy _ _ c.args.at _ _ _ _ _ _ c.copy_from_slice.ensures.after (search rules) (search rules) (search rules)
    (search rules) (λ m h g. refl)

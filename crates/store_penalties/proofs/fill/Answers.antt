-- All words become the one word.
use mathlib.Core.Path.{sym, subst}
use Rattle.store_penalties.specs.Sweeping.{Blank, blank}
use Rattle.store_penalties.proofs.fill.Goals as goal

pub returns-clause-blank : goal.returns-clause-blank
returns-clause-blank c = subst (Blank 2048) (sym c.set_all.ensures.best_after) (blank 2048 _ c.requires)

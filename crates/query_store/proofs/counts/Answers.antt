-- It leads elsewhere, or it repeats; else it counts.
use mathlib.Core.Path.{sym}
use mathlib.Core.Bool.{true≢false}
use Rattle.query_store.proofs.RepeatLaws.{idle_elsewhere, idle_repeats, leads_there}
use Rattle.query_store.proofs.counts.Goals as goal

pub returns-then-arc_target-target : goal.returns-then-arc_target-target
returns-then-arc_target-target c = (λ e. absurd (true≢false (sym e)), λ e. search idle_elsewhere)

pub returns : goal.returns
returns c = (λ e. search leads_there, λ e. search idle_repeats)

-- The arc before leads to the same target, from a node with the same stations.
use mathlib.Core.Path.{sym}
use mathlib.Core.Bool.{true≢false}
use borrow.Author.Rules.{rules}
use Rattle.query_store.proofs.RepeatLaws.{last_inside, before_node, repeat}
use Rattle.query_store.proofs.repeats.Goals as goal

pub returns-then-k-eq0 : goal.returns-then-k-eq0
returns-then-k-eq0 c = λ e. absurd (true≢false (sym e))

pub returns-then-arc_target : goal.returns-then-arc_target
returns-then-arc_target c = λ e. absurd (true≢false (sym e))

pub same_stations-requires : goal.same_stations-requires
same_stations-requires c = (search rules, search before_node, search (before_node, last_inside))

pub returns : goal.returns
returns c = λ e. search (repeat, c.same_stations.ensures e)

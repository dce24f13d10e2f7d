use Prim.Native.Nat.{◌-◌}
use borrow.Author.Rules.{rules}
use Rattle.query_places.specs.Turns as piece
use Rattle.query_direct.proofs.CallLaws.{sought_first, sought_none, sought_here, sought_next}
use Rattle.query_direct.proofs.CallLaws.{first_begins, first_done, no_trip, some_trip}
use Rattle.query_direct.proofs.costs.note_first.Goals as goal

pub calls-init : goal.calls-init
calls-init c = (search rules, search rules, search rules, search rules, search rules, search first_begins)

pub loop-j-init : goal.loop-j-init
loop-j-init c = (search rules, search sought_first)

pub calls-preserved-then-g-j : goal.calls-preserved-then-g-j
calls-preserved-then-g-j c = (
  search rules,
  search rules,
  search rules,
  search rules,
  search rules,
  search
      (no_trip, sought_none),
)

pub loop-j-preserved : goal.loop-j-preserved
loop-j-preserved c = (
  search rules,
  sought_next _ _ _ _ _ c.loop-j.invariant.1 c.if-g-j.false _ c.depart_at.ensures.0
      c.if-minute-depart_at.false,
)

pub calls-preserved : goal.calls-preserved
calls-preserved c = (
  search rules,
  search rules,
  search rules,
  search rules,
  search rules,
  search
      (some_trip, sought_here),
)

pub returns-clause-best_after : goal.returns-clause-best_after
returns-clause-best_after c = search first_done

use native.Mathlib.Nat.{add-zero, sub-zero}
use mathlib.Core.Path.{refl}
use Prim.Native.Nat.{◌-◌}
use Rattle.words.specs.Below.{below_none, below_more}
use Rattle.lines_turned.proofs.WriteLaws.{trip_more, trip_done}
use borrow.Author.Rules.{rules}
use Rattle.lines_turned.proofs.write_trip.Goals as goal

pub loop-p-init : goal.loop-p-init
loop-p-init c = (search rules, search rules, refl, simp (add-zero, sub-zero))

pub narrow-requires : goal.narrow-requires
narrow-requires c = (search rules, search (rules, below_none, below_more))

pub loop-p-preserved : goal.loop-p-preserved
loop-p-preserved c = let turn = c.loop-p in
    let more =
    trip_more _ _ _ _ _ _ _ _ _ turn.invariant.3 _ _ _ (search rules) (search rules) (search rules)
    c.peek-arrive.ensures.0 c.peek-depart.ensures.0 c.narrow.ensures.dst_after in
    (search rules, search rules, search rules, more)

pub returns-clause-out_after : goal.returns-clause-out_after
returns-clause-out_after c = search trip_done

use Prim.Native.Nat.{◌-◌}
use Rattle.query_rows.proofs.PassLaws.{going_begin, all_written, put_nothing}
use Rattle.query_rows.proofs.PointLaws.{skip_at, leading_at, some_at, leader_at, room_at, written_at, held_at}
use borrow.Author.Rules.{rules}
use Rattle.query_rows.proofs.write_rows.Goals as goal

pub loop-arrive-init : goal.loop-arrive-init
loop-arrive-init c = (search rules, search rules, search rules, search rules, search going_begin, search put_nothing)

pub loop-arrive-preserved-then-not-less : goal.loop-arrive-preserved-then-not-less
loop-arrive-preserved-then-not-less c = (
  search rules,
  search rules,
  search rules,
  search rules,
  search skip_at,
  search
      rules,
)

pub write_row-here-requires : goal.write_row-here-requires
write_row-here-requires c = (
  search rules,
  search leading_at,
  search leader_at,
  search some_at,
  search rules,
  search rules,
  search rules,
  search room_at,
)

pub loop-arrive-preserved : goal.loop-arrive-preserved
loop-arrive-preserved c = (search rules, search rules, search rules, search rules, search written_at, search held_at)

pub returns-clause-answer_after : goal.returns-clause-answer_after
returns-clause-answer_after c = search all_written

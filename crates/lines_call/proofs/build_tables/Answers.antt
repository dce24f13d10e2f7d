-- The words of a timetable are of 16 bits, and so are those of its line tables: narrowing leaves each as it is.
use Rattle.std.proofs.Common.{sym, length-take, length-take-le}
use Prim.Native.Nat.{ℕ, ◌<◌, ◌≤◌}
use native.Mathlib.Omega.{arith}
use lib.ListN.{get_or, length}
use Rattle.lines_tables.specs.Copied.{lines_room, work_room, taken_narrow, tables_copied}
use Rattle.lines_call.proofs.BuildLaws.{lines_counted}
use Rattle.lines_call.proofs.build_tables.Goals as goal

pub slice_bounds-narrow-end : goal.slice_bounds-narrow-end
slice_bounds-narrow-end c =
    let room : c.write_in_order-count.result ≤ length c.write_in_order-count.new.out = search work_room in
    omega (arith, room, length-take-le c.write_in_order-count.result c.write_in_order-count.new.out room)

pub slice_bounds-narrow-end-2 : goal.slice_bounds-narrow-end-2
slice_bounds-narrow-end-2 c =
    let room : c.write_in_order-count.result ≤ length c.write_in_order-count.new.out = search work_room in
    sym (length-take-le c.write_in_order-count.result c.write_in_order-count.new.out room)

pub narrow-requires : goal.narrow-requires
narrow-requires c = let w = c.args.words.now in
    let small : (i : ℕ) → get_or w i 0 < 65536 = λ i. omega (arith, c.type_inv.words i) in
    let room : c.write_in_order-count.result ≤ length c.args.lines.now = search lines_room in
    (simp length-take (omega (arith, room)), search (taken_narrow, small))

pub returns-clause-lines_after : goal.returns-clause-lines_after
returns-clause-lines_after c = search tables_copied

pub returns-clause-value : goal.returns-clause-value
returns-clause-value c = search lines_counted

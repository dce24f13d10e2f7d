-- The tables are built in working space; where the words lent are the other layout of them, they are copied from there.
use Rattle.std.proofs.Common.{sym, length-take, length-take-le}
use Prim.Native.Nat.{ℕ, ◌<◌, ◌≤◌}
use native.Mathlib.Omega.{arith}
use lib.ListN.{get_or, length}
use Rattle.lines_tables.specs.Copied.{lines_room, work_room, taken_narrow, tables_copied}
use Rattle.lines_turned.specs.Held.{held_written}
use Rattle.lines_turned.proofs.AskedLaws.{written_long, refused_reply, refused_words, built_reply, built_words}
use borrow.Author.Rules.{rules}
use Rattle.lines_turned.proofs.turn_back.Goals as goal

pub is_turned-requires : goal.is_turned-requires
is_turned-requires c = (search rules, search held_written, search written_long, search rules)

pub returns-then-not-is_turned-clause-value : goal.returns-then-not-is_turned-clause-value
returns-then-not-is_turned-clause-value c = search refused_reply

pub returns-then-not-is_turned-clause-lines_after : goal.returns-then-not-is_turned-clause-lines_after
returns-then-not-is_turned-clause-lines_after c = search refused_words

pub slice_bounds-narrow-end : goal.slice_bounds-narrow-end
slice_bounds-narrow-end c =
    let room : c.write_tables-count.result ≤ length c.write_tables-count.new.out = search work_room in
    omega (arith, room, length-take-le c.write_tables-count.result c.write_tables-count.new.out room)

pub slice_bounds-narrow-end-2 : goal.slice_bounds-narrow-end-2
slice_bounds-narrow-end-2 c =
    let room : c.write_tables-count.result ≤ length c.write_tables-count.new.out = search work_room in
    sym (length-take-le c.write_tables-count.result c.write_tables-count.new.out room)

pub narrow-requires : goal.narrow-requires
narrow-requires c = let w = c.args.words.now in
    let small : (i : ℕ) → get_or w i 0 < 65536 = λ i. omega (arith, c.type_inv.words i) in
    let room : c.write_tables-count.result ≤ length c.args.lines.now = search lines_room in
    (simp length-take (omega (arith, room)), search (taken_narrow, small))

pub returns-clause-value : goal.returns-clause-value
returns-clause-value c = search built_reply

pub returns-clause-lines_after : goal.returns-clause-lines_after
returns-clause-lines_after c = search (built_words, tables_copied)

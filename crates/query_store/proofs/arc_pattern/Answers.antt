-- The predecessor's stations were written before; the target makes them one more. Question 13 keeps them few.
use Prim.Native.Nat.{◌<◌}
use native.Mathlib.Omega.{arith}
use borrow.Author.Rules.{rules}
use Rattle.query_store.proofs.ReadLaws.{before_known, before_room, arc_room, arc_depth}
use Rattle.query_store.proofs.ReadLaws.{arc_length, arc_short, arc_words_lem, kept_length}
use Rattle.query_store.proofs.arc_pattern.Goals as goal

pub read_pattern-depth-requires-clause-node_bound : goal.read_pattern-depth-requires-clause-node_bound
read_pattern-depth-requires-clause-node_bound c = (search before_known, search before_room)

pub offset_bounds-path-depth : goal.offset_bounds-path-depth
offset_bounds-path-depth c = let h : c.read_pattern-depth.result < 128 = search arc_depth in
    record { fits = omega arith }

pub bounds-path-depth : goal.bounds-path-depth
bounds-path-depth c = search arc_room

pub overflow_add-result : goal.overflow_add-result
overflow_add-result c = let h : c.read_pattern-depth.result < 128 = search arc_depth in
    record { fits = omega arith }

pub returns-clause-path_after : goal.returns-clause-path_after
returns-clause-path_after c = search arc_words_lem

pub returns-clause-value : goal.returns-clause-value
returns-clause-value c = (search arc_length, search rules, search arc_short)

pub returns-clause-path_len_unchanged : goal.returns-clause-path_len_unchanged
returns-clause-path_len_unchanged c = search kept_length

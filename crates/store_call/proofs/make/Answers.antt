-- The tree does not fit, the slice is too short, or the store is written.
use Prim.Native.Nat.{◌≤◌}
use native.Mathlib.Omega.{arith}
use borrow.Author.Rules.{rules}
use Rattle.stores.specs.Words.{entries_most}
use Rattle.store_call.proofs.MakeLaws.{many_reply, many_words, short_reply, short_words, nodes_few, arcs_few}
use Rattle.store_call.proofs.MakeLaws.{finished, count_small, done_reply, done_words}
use Rattle.store_call.proofs.make.Goals as goal

pub returns-then-not-counts : goal.returns-then-not-counts
returns-then-not-counts c = (search many_reply, search many_words)

pub overflow_mul-count : goal.overflow_mul-count
overflow_mul-count c = let few-n : c.make_tree-counts.result.n ≤ entries_most = search nodes_few in
    omega arith

pub overflow_add-count : goal.overflow_add-count
overflow_add-count c = let few-n : c.make_tree-counts.result.n ≤ entries_most = search nodes_few in
    omega arith

pub overflow_mul-count-2 : goal.overflow_mul-count-2
overflow_mul-count-2 c = let few-m : c.make_tree-counts.result.m ≤ entries_most = search arcs_few in
    omega arith

pub overflow_add-count-2 : goal.overflow_add-count-2
overflow_add-count-2 c = let few-n : c.make_tree-counts.result.n ≤ entries_most = search nodes_few in
    let few-m : c.make_tree-counts.result.m ≤ entries_most = search arcs_few in
    omega arith

pub returns-then-store-count : goal.returns-then-store-count
returns-then-store-count c = (search short_reply, search short_words)

pub write_store-requires : goal.write_store-requires
write_store-requires written = (search rules, search finished, search rules)

pub overflow_cast-result : goal.overflow_cast-result
overflow_cast-result c = record { fits = search count_small }

pub returns : goal.returns
returns c = (search done_reply, search done_words)

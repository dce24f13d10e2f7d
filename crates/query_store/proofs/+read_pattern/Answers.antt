use borrow.Author.Rules.{rules}
use Rattle.query_store.proofs.ReadLaws.{root_words, root_count, parent_below}
use Rattle.query_store.proofs.ReadLaws.{parent_known, parent_room, node_begin, node_second}
use Rattle.query_store.proofs.ReadLaws.{node_count_lem, node_words}
use Rattle.query_store.proofs.+read_pattern.Goals as goal

pub returns-then-node-eq0-clause-path_after : goal.returns-then-node-eq0-clause-path_after
returns-then-node-eq0-clause-path_after t c = search root_words

pub returns-then-node-eq0-clause-value : goal.returns-then-node-eq0-clause-value
returns-then-node-eq0-clause-value t c = search root_count

pub read_pattern-depth-requires : goal.read_pattern-depth-requires
read_pattern-depth-requires t c =
    (search parent_below, (search rules, (search parent_known, search parent_room)))

pub bounds-path-depth : goal.bounds-path-depth
bounds-path-depth t c = search node_begin

pub bounds-path-depth-2 : goal.bounds-path-depth-2
bounds-path-depth-2 t c = search node_second

pub returns-clause-path_after : goal.returns-clause-path_after
returns-clause-path_after t c = search node_words

pub returns-clause-value : goal.returns-clause-value
returns-clause-value t c = search node_count_lem

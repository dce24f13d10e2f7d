-- The tests are those of question 13, in the order of `decided`.
use borrow.Author.Rules.{rules}
use Rattle.query_store.proofs.TestLaws.{not_present, nodes_there, all_there, few_nodes, nodes_bad, made_decides}
use Rattle.query_store.proofs.is_well_made.Goals as goal

pub returns-then-not-is_present : goal.returns-then-not-is_present
returns-then-not-is_present c = search not_present

pub nodes_made-requires : goal.nodes_made-requires
nodes_made-requires c = (search nodes_there, search few_nodes, search rules)

pub returns-then-not-nodes_made : goal.returns-then-not-nodes_made
returns-then-not-nodes_made c = search nodes_bad

pub arcs_made-requires : goal.arcs_made-requires
arcs_made-requires c = let noted = c.nodes_made.ensures.depths c.if-not-nodes_made.false in
    (search all_there, search few_nodes, search rules, noted)

pub returns : goal.returns
returns c = search made_decides

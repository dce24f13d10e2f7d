-- The counts are there, then what they promise, then they are within their limits.
use Rattle.query_store.proofs.TestLaws.{no_counts, absent, many_nodes, arcs_decide}
use Rattle.query_store.proofs.is_present.Goals as goal

pub returns-then-store-lt2 : goal.returns-then-store-lt2
returns-then-store-lt2 c = search no_counts

pub returns-then-store-nodes : goal.returns-then-store-nodes
returns-then-store-nodes c = search absent

pub returns-then-nodes-gt-ENTRIES_MOST : goal.returns-then-nodes-gt-ENTRIES_MOST
returns-then-nodes-gt-ENTRIES_MOST c = search many_nodes

pub returns : goal.returns
returns c = search arcs_decide

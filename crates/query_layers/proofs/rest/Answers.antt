-- What is kept is looked up; after the last ride nothing is left; else it is found from the target back, and kept.
use borrow.Author.Rules.{rules}
use Rattle.query_layers.proofs.LayerLaws.{rest_room, rest_is, rest_spans, keeps_on, keeps_more}
use Rattle.query_layers.proofs.LayerLaws.{last_rest, last_spans}
use Rattle.query_layers.proofs.rest.Goals as goal

pub look_up-requires : goal.look_up-requires
look_up-requires c = (search rules, search rules, search rules, search rest_room, search rules)

pub returns-then-i-kept-clause-rests_at : goal.returns-then-i-kept-clause-rests_at
returns-then-i-kept-clause-rests_at c = (search rest_is, search keeps_on, search rest_spans, search rules)

pub returns-then-r-i-clause-rests_at : goal.returns-then-r-i-clause-rests_at
returns-then-r-i-clause-rests_at c = (search last_rest, search keeps_on, search last_spans, search rules)

pub returns-clause-rests_at : goal.returns-clause-rests_at
returns-clause-rests_at c = (search rules, search keeps_more, search rules, search rules)

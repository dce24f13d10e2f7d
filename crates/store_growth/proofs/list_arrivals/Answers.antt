-- What the order of arrivals is, part by part, and whether riders may alight everywhere.
use mathlib.Core.Path.{refl, ◌∙◌}
use borrow.Author.Rules.{rules}
use Rattle.store_stops.specs.TimelyLaws.{timely}
use Rattle.store_minutes.specs.Prepared.{arrivals_of}
use Rattle.store_growth.proofs.list_arrivals.Goals as goal

pub chain_arrivals-requires : goal.chain_arrivals-requires
chain_arrivals-requires c = (search rules, search rules, search timely, search rules, search rules, search rules)

pub returns : goal.returns
returns c = arrivals_of _ c.requires.1 _ _ _ _ _ c.chain_arrivals.ensures.chain_after c.chain_arrivals.ensures.begins
    (c.chain_arrivals.ensures.first_len_unchanged ∙ c.requires.4)
    c.some_closed.ensures refl

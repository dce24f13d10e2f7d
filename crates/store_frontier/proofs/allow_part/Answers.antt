-- The part of station c is a run of places, so its arrivals are marked by their frontier.
use borrow.Author.Rules.{rules}
use Rattle.store_frontier.proofs.FrontLaws.{first_inside, next_inside, part_run, part_fronted}
use Rattle.store_frontier.proofs.allow_part.Goals as goal

pub index_at-begin-requires : goal.index_at-begin-requires
index_at-begin-requires c = search first_inside

pub index_at-end-requires : goal.index_at-end-requires
index_at-end-requires c = search next_inside

pub allow_station-requires : goal.allow_station-requires
allow_station-requires c = (search rules, search rules, search part_run, search rules)

pub returns-clause-fronted : goal.returns-clause-fronted
returns-clause-fronted c = search part_fronted

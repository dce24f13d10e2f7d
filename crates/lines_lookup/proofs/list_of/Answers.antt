-- The words between the places of the station and of the next, as far as there are words.
use borrow.Author.Rules.{rules}
use Rattle.lines_lookup.proofs.LookupLaws.{no_station_lem, not_listed, cut_list}
use Rattle.lines_lookup.proofs.list_of.Goals as goal

pub returns-then-station-lt1 : goal.returns-then-station-lt1
returns-then-station-lt1 c = (search no_station_lem, search rules)

pub returns-then-peek-station : goal.returns-then-peek-station
returns-then-peek-station c = (search not_listed, search rules)

pub returns : goal.returns
returns c = (search cut_list, search rules)

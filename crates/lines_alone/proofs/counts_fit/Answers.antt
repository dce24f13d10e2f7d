-- Two counts may be too large; then the trips on all lines decide.
use Rattle.lines_alone.proofs.CountLaws.{stations_many, lines_many, counts_tested}
use Rattle.lines_alone.proofs.counts_fit.Goals as goal

pub returns-then-peek-gt-STATIONS_MOST : goal.returns-then-peek-gt-STATIONS_MOST
returns-then-peek-gt-STATIONS_MOST c = search stations_many

pub returns-then-lines-gt-TRIPS_MOST : goal.returns-then-lines-gt-TRIPS_MOST
returns-then-lines-gt-TRIPS_MOST c = search lines_many

pub returns : goal.returns
returns c = search counts_tested

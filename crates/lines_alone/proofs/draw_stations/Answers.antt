use mathlib.Core.Path.{sym}
use borrow.Author.Rules.{rules}
use Rattle.words.specs.Put.{put_none}
use Rattle.words.specs.Below.{below_none, below_more}
use Rattle.timetable.specs.Words.{station_words}
use Rattle.lines_alone.proofs.DrawLaws.{station_more, stations_done}
use Rattle.lines_alone.proofs.draw_stations.Goals as goal

pub loop-i-init : goal.loop-i-init
unfolding station_words
loop-i-init c = (search rules, search rules, sym (put_none _ _))

pub narrow-requires : goal.narrow-requires
narrow-requires c = (search rules, search (rules, below_none, below_more))

pub loop-i-preserved : goal.loop-i-preserved
loop-i-preserved c = (search rules, search rules, search station_more)

pub returns-clause-body_after : goal.returns-clause-body_after
returns-clause-body_after c = search stations_done

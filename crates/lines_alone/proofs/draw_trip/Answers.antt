use mathlib.Core.Path.{sym}
use borrow.Author.Rules.{rules}
use Rattle.words.specs.Put.{put_none}
use Rattle.timetable.specs.Words.{stop_words}
use Rattle.lines_alone.proofs.DrawLaws.{stop_more, stops_done}
use Rattle.lines_alone.proofs.draw_trip.Goals as goal

pub loop-p-init : goal.loop-p-init
unfolding stop_words
loop-p-init c = (search rules, search rules, search rules, search rules, sym (put_none _ _))

pub loop-p-preserved : goal.loop-p-preserved
loop-p-preserved c = (search rules, search rules, search rules, search rules, search stop_more)

pub returns-clause-body_after : goal.returns-clause-body_after
returns-clause-body_after c = search stops_done

-- A refused line writes nothing. One that has its yes is within the limits, so that its words have room and fit.
use Rattle.std.proofs.Common.{refl}
use Rattle.std.proofs.lemmas.Result.{err_from_is_err_and}
use Rattle.questions.specs.Refused.{number_some}
use borrow.Author.Rules.{rules}
use Rattle.words.specs.Below.{below_none, below_more}
use Rattle.reading.proofs.YesLaws.{stop_room, station_word, arrive_word, depart_word, ride_word, mark_word, trips_below}
use Rattle.reading.proofs.YesLaws.{stops_below}
use Rattle.reading.proofs.TakeLaws.{refused_next, refused_body, refused_starts, taken_next, taken_body, taken_starts}
use Rattle.reading.proofs.take_stop.Goals as goal

pub returns-in_err-stop_asked : goal.returns-in_err-stop_asked
returns-in_err-stop_asked c =
    let p = err_from_is_err_and c.from_residual.result c.from_residual.ensures.1 in
    rw (p.1, p.2) (
      search (refused_next, number_some, c.in_err-stop_asked.ensures),
      search (refused_body, number_some, c.in_err-stop_asked.ensures),
      search (refused_starts, number_some, c.in_err-stop_asked.ensures),
    )

pub narrow-requires : goal.narrow-requires
narrow-requires c = let e = c.in_ok-stop_asked.ensures in (
  search (stop_room, refl, e),
  below_more _ _ _ (search (station_word, refl, e))
      (below_more _ _ _ (search (arrive_word, refl, e))
      (below_more _ _ _ (search (depart_word, refl, e))
      (below_more _ _ _ (search (ride_word, refl, e)) (below_more _ _ _ (search (mark_word, refl, e)) (below_none
      _))))),
)

pub mark_start-requires : goal.mark_start-requires
mark_start-requires c = (
  search (trips_below, refl, c.in_ok-stop_asked.ensures),
  search (
    stops_below,
    refl,
    c.in_ok-stop_asked.ensures,
  ),
  search rules,
)

pub returns : goal.returns
returns c = (
  search (taken_next, refl, c.in_ok-stop_asked.ensures),
  search (
    taken_body,
    refl,
    c.in_ok-stop_asked.ensures,
  ),
  search (taken_starts, refl, c.in_ok-stop_asked.ensures),
)

-- A refused line writes nothing. One that has its yes is within the limits, so that its words have room and fit.
use Rattle.std.proofs.Common.{refl}
use Rattle.std.proofs.lemmas.Result.{err_from_is_err_and}
use Rattle.questions.specs.Refused.{number_some}
use Rattle.words.specs.Below.{below_none, below_more}
use Rattle.reading.proofs.YesLaws.{station_room, minutes_word, points_word}
use Rattle.reading.proofs.TakeLaws.{refused_next, refused_body, taken_next, taken_body}
use Rattle.reading.proofs.take_station.Goals as goal

pub returns-in_err-station_asked : goal.returns-in_err-station_asked
returns-in_err-station_asked c =
    let p = err_from_is_err_and c.from_residual.result c.from_residual.ensures.1 in
    rw (p.1, p.2) (
      search (refused_next, number_some, c.in_err-station_asked.ensures),
      search (refused_body, number_some, c.in_err-station_asked.ensures),
    )

pub narrow-requires : goal.narrow-requires
narrow-requires c = (
  search (station_room, refl, c.in_ok-station_asked.ensures),
  below_more _ _ _ (search (minutes_word, refl, c.in_ok-station_asked.ensures))
      (below_more _ _ _ (search (points_word, refl, c.in_ok-station_asked.ensures)) (below_none _)),
)

pub returns : goal.returns
returns c = (
  search (taken_next, refl, c.in_ok-station_asked.ensures),
  search (
    taken_body,
    refl,
    c.in_ok-station_asked.ensures,
  ),
)

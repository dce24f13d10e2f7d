-- A refused line writes nothing. One that has its yes is within the limits, so that its words have room and fit.
use Rattle.std.proofs.Common.{refl}
use Rattle.std.proofs.lemmas.Result.{err_from_is_err_and}
use Rattle.questions.specs.Refused.{number_some}
use Rattle.words.specs.Below.{below_none, below_more}
use Rattle.reading.proofs.YesLaws.{walk_room, from_word, to_word, walk_minutes_word, walk_points_word}
use Rattle.reading.proofs.TakeLaws.{refused_next, refused_walking, taken_next, taken_walking}
use Rattle.reading.proofs.take_walk.Goals as goal

pub returns-in_err-walk_asked : goal.returns-in_err-walk_asked
returns-in_err-walk_asked c =
    let p = err_from_is_err_and c.from_residual.result c.from_residual.ensures.1 in
    rw (p.1, p.2) (
      search (refused_next, number_some, c.in_err-walk_asked.ensures),
      search (refused_walking, number_some, c.in_err-walk_asked.ensures),
    )

pub narrow-requires : goal.narrow-requires
narrow-requires c = let e = c.in_ok-walk_asked.ensures in (
  search (walk_room, refl, e),
  below_more _ _ _ (search (from_word, refl, e))
      (below_more _ _ _ (search (to_word, refl, e))
      (below_more _ _ _ (search (walk_minutes_word, refl, e))
      (below_more _ _ _ (search (walk_points_word, refl, e)) (below_none _)))),
)

pub returns : goal.returns
returns c = (
  search (taken_next, refl, c.in_ok-walk_asked.ensures),
  search (
    taken_walking,
    refl,
    c.in_ok-walk_asked.ensures,
  ),
)

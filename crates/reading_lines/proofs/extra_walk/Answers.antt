-- Its range, and then it is out of place.
use Rattle.std.proofs.Common.{refl}
use Rattle.std.proofs.lemmas.Result.{err_from_is_err_and}
use Rattle.questions.specs.Refused.{number_some}
use Rattle.reading_lines.proofs.ExtraLaws.{extra_walk_out, extra_walk_astray}
use Rattle.reading_lines.proofs.extra_walk.Goals as goal

pub returns-in_err-walk_in_range : goal.returns-in_err-walk_in_range
returns-in_err-walk_in_range c =
    let p = err_from_is_err_and c.from_residual.result c.from_residual.ensures.1 in
    rw (p.1, p.2) (search (extra_walk_out, number_some, c.in_err-walk_in_range.ensures))

pub returns : goal.returns
returns c = search (extra_walk_astray, refl, c.in_ok-walk_in_range.ensures)

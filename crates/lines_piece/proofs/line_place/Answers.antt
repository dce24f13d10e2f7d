-- The line's words begin with its two counts, behind which its trips stand.
use Rattle.std.proofs.Common.{refl}
use Rattle.std.proofs.lemmas.Result.{err_from_is_err_and}
use Rattle.questions.specs.Refused.{number_some}
use borrow.Author.Rules.{rules}
use Rattle.lines_piece.proofs.PieceLaws.{no_start, no_length, line_counts, place_small, start_told_lem, length_told_lem}
use Rattle.lines_piece.proofs.PieceLaws.{piece_inside, start_small}
use Rattle.lines_piece.proofs.line_place.Goals as goal

pub returns-in_err-line_number-clause-number_value : goal.returns-in_err-line_number-clause-number_value
returns-in_err-line_number-clause-number_value c =
    let p = err_from_is_err_and c.from_residual.result c.from_residual.ensures.1 in
    rw (p.1, p.2) (
      c.in_err-line_number.ensures,
      search (no_start, number_some, c.in_err-line_number.ensures),
      search (no_length, number_some, c.in_err-line_number.ensures),
    )

pub overflow_sub-line : goal.overflow_sub-line
overflow_sub-line c = search (line_counts, refl, c.in_ok-line_number.ensures)

pub line_at-l-requires : goal.line_at-l-requires
line_at-l-requires c = search (place_small, refl, c.in_ok-line_number.ensures)

pub returns-clause-number_value : goal.returns-clause-number_value
returns-clause-number_value c = (
  search rules,
  search (start_told_lem, refl, c.in_ok-line_number.ensures),
  search
      (length_told_lem, refl, c.in_ok-line_number.ensures),
)

pub returns-clause-count_in_bounds : goal.returns-clause-count_in_bounds
returns-clause-count_in_bounds c = search (piece_inside, refl, c.in_ok-line_number.ensures)

pub returns-clause-start_bound : goal.returns-clause-start_bound
returns-clause-start_bound c = (search (start_small, refl, c.in_ok-line_number.ensures), search rules)

use Rattle.std.proofs.lemmas.Result.{err_from_is_err_and}
use Rattle.lines_check.proofs.AskedLaws.{words_long, tables_refused, not_named, minute_late, all_asked}
use Rattle.lines_check.proofs.query_number.Goals as goal

pub returns-in_err-tables_number : goal.returns-in_err-tables_number
returns-in_err-tables_number c =
    let p = err_from_is_err_and c.from_residual.result c.from_residual.ensures.1 in
    rw (p.1, p.2) (search (tables_refused, c.in_err-tables_number.ensures))

pub are_named-requires : goal.are_named-requires
are_named-requires c = search (words_long, c.in_ok-tables_number.ensures)

pub returns-then-not-are_named : goal.returns-then-not-are_named
returns-then-not-are_named c = search (not_named, c.in_ok-tables_number.ensures)

pub returns-then-minute-gt-LAST_MINUTE : goal.returns-then-minute-gt-LAST_MINUTE
returns-then-minute-gt-LAST_MINUTE c = search (minute_late, c.in_ok-tables_number.ensures)

pub returns : goal.returns
returns c = search (all_asked, c.in_ok-tables_number.ensures)

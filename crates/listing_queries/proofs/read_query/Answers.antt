-- Each way out is a law on the line and the ends of its fields.
use Rattle.listing_queries.proofs.QueryLaws.{too_short, other_kind, no_comma, one_field, two_fields, more_fields}
use Rattle.listing_queries.proofs.QueryLaws.{no_from, no_to, no_minute, three_fields}
use Rattle.listing_queries.proofs.read_query.Goals as goal
use Rattle.listing_queries.proofs.read_query.Goals.{then-n-lt2-via-then-n-lt2}
use Rattle.listing_queries.proofs.read_query.Goals.{then-n-lt2-via-else-n-lt2+then-line-ne-QUERY}
use Rattle.listing_queries.proofs.read_query.Goals.{then-n-lt2-via-else-n-lt2+else-line-ne-QUERY+then-line-ne-COMMA}

pub returns-then-n-lt2 : goal.returns-then-n-lt2
returns-then-n-lt2 c =
    elim c.then-n-lt2.branch [
      | then-n-lt2-via-then-n-lt2 w ↦ search too_short
      | then-n-lt2-via-else-n-lt2+then-line-ne-QUERY w ↦ search other_kind
      | then-n-lt2-via-else-n-lt2+else-line-ne-QUERY+then-line-ne-COMMA w ↦ search no_comma
    ]

pub returns-then-first-n : goal.returns-then-first-n
returns-then-first-n c = search one_field

pub returns-then-second-n : goal.returns-then-second-n
returns-then-second-n c = search two_fields

pub returns-then-third-n : goal.returns-then-third-n
returns-then-third-n c = search more_fields

pub returns-in_err-from : goal.returns-in_err-from
returns-in_err-from c = search (no_from, c.in_err-from.ensures)

pub returns-in_err-to : goal.returns-in_err-to
returns-in_err-to c = search (no_to, c.in_err-to.ensures, c.in_ok-from.ensures)

pub returns-in_err-minute : goal.returns-in_err-minute
returns-in_err-minute c = search (no_minute, c.in_err-minute.ensures, c.in_ok-from.ensures, c.in_ok-to.ensures)

pub returns : goal.returns
returns c = search (three_fields, c.in_ok-from.ensures, c.in_ok-to.ensures, c.in_ok-minute.ensures)

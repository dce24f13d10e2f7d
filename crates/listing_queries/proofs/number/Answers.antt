use borrow.Author.Tests.{le-leb, lt-leb}
use Rattle.listing_queries.specs.Query.{number_of}
use Rattle.listing_queries.proofs.number.Goals as goal

pub returns-then-value-gt-NUMBER_MOST : goal.returns-then-value-gt-NUMBER_MOST
unfolding number_of
returns-then-value-gt-NUMBER_MOST c = simp (← c.field_value-value.ensures, lt-leb _ _ c.if-value-gt-NUMBER_MOST.true)

pub returns : goal.returns
unfolding number_of
returns c = simp (← c.field_value-value.ensures, le-leb _ _ c.if-value-gt-NUMBER_MOST.false)

-- The store of the source, and what is printed from it.
use Rattle.listing_stores.proofs.MakeLaws.{held_number, held_store}
use Rattle.listing_answers.proofs.answer_stored.Goals as goal

pub returns-clause-number_value : goal.returns-clause-number_value
returns-clause-number_value c = (
  held_number _ _ _ _ c.stored-made.ensures.0 _ c.stored-made.ensures.1,
  held_store _ _ _
      _ c.stored-made.ensures.0 _ c.stored-made.ensures.2,
)

-- The reply from the store says what is printed.
use Rattle.listing_stores.proofs.ShownLaws.{done_count, done_words, refused_count, refused_words}
use mathlib.Core.Path.{refl}
use borrow.Author.Rules.{rules}
use Rattle.listing_stores.proofs.show.Goals as goal

pub returns-in-Ok : goal.returns-in-Ok
returns-in-Ok c = (
  search (done_count, refl, c.in-Ok.ensures.reply),
  search (
    done_words,
    refl,
    c.in-Ok.ensures.reply,
  ),
  search rules,
  search rules,
)

pub returns-in-Err : goal.returns-in-Err
returns-in-Err c = (
  search (refused_count, refl, c.in-Err.ensures.reply),
  search (
    refused_words,
    refl,
    c.in-Err.ensures.reply,
  ),
  search rules,
  search rules,
)

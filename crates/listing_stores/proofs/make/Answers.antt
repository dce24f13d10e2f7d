-- The store is made in zeros; each reply has its number.
use mathlib.Core.Path.{refl}
use Rattle.listing_stores.proofs.MakeLaws.{made_done, made_refused, made_store}
use borrow.Author.Rules.{rules}
use Rattle.listing_stores.proofs.make.Goals as goal

pub returns-in-Ok : goal.returns-in-Ok
returns-in-Ok c = (
  refl,
  made_done _ _ c.args.store.now _ _ _ c.requires.0 c.requires.1 (search rules) _ c.in-Ok.ensures.reply _ refl,
  search (made_store, c.fill.ensures.after (λ y e. e)),
  search rules,
)

pub returns-in-Err : goal.returns-in-Err
returns-in-Err c = (
  refl,
  search (made_refused, refl, c.in-Err.ensures.reply),
  search (made_store, c.fill.ensures.after (λ y e. e)),
  search rules,
)

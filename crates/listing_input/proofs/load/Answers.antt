-- The reply of reading says what is printed, and whether line tables are built.
use Rattle.listing_input.proofs.TextLaws.{none_count, none_words, told_count, told_words, tables_built}
use Rattle.listing_input.proofs.TextLaws.{tables_kept}
use Rattle.std.proofs.Common.{refl}
use borrow.Author.Rules.{rules}
use Rattle.listing_input.proofs.load.Goals as goal

pub returns-in-Ok-clause-value : goal.returns-in-Ok-clause-value
returns-in-Ok-clause-value c = (
  none_count _ _ c.requires.0 _ c.in-Ok.ensures.reply _ refl,
  none_words _ _ c.requires.0 _ c.in-Ok.ensures.reply _ refl _,
  search rules,
  search rules,
)

pub returns-in-Ok-clause-timetable_after : goal.returns-in-Ok-clause-timetable_after
returns-in-Ok-clause-timetable_after c = (
  search rules,
  tables_built _ _ c.requires.0 _ c.in-Ok.ensures.reply _ refl _ _ _ _ c.build.ensures.words,
)

pub returns-in-Err-clause-value : goal.returns-in-Err-clause-value
returns-in-Err-clause-value c = (
  search (told_count, refl, c.in-Err.ensures.reply),
  search (
    told_words,
    refl,
    c.in-Err.ensures.reply,
  ),
  search rules,
  search rules,
)

pub returns-in-Err-clause-timetable_after : goal.returns-in-Err-clause-timetable_after
returns-in-Err-clause-timetable_after c = (
  search rules,
  tables_kept _ _ c.requires.0 _ c.in-Err.ensures.reply _ _ refl _ _ _,
)

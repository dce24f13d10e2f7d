-- Question 10 decides; tables with a yes are turned.
use Rattle.lines_turned.specs.Held.{held_own}
use Rattle.lines_turned.proofs.AskedLaws.{refused_reply, refused_words, done_reply, done_words}
use borrow.Author.Rules.{rules}
use Rattle.lines_turned.proofs.turn.Goals as goal

pub returns-then-not-are_tables-clause-value : goal.returns-then-not-are_tables-clause-value
returns-then-not-are_tables-clause-value c = search refused_reply

pub returns-then-not-are_tables-clause-other_after : goal.returns-then-not-are_tables-clause-other_after
returns-then-not-are_tables-clause-other_after c = search refused_words

pub write_turned-requires : goal.write_turned-requires
write_turned-requires c = (search rules, search held_own, search rules, search rules)

pub returns-clause-value : goal.returns-clause-value
returns-clause-value c = search (done_reply, held_own)

pub returns-clause-other_after : goal.returns-clause-other_after
returns-clause-other_after c = search done_words

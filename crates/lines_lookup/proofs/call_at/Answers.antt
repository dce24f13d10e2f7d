-- Two words, each less one.
use borrow.Author.Rules.{rules}
use Rattle.lines_lookup.proofs.LookupLaws.{call_is}
use Rattle.lines_lookup.proofs.call_at.Goals as goal

pub returns : goal.returns
returns c = (search call_is, search rules, search rules)

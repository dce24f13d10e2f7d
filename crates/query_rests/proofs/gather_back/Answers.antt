-- The promises of the callees, one put into the other.
use borrow.Author.Rules.{rules}
use Rattle.query_rests.proofs.GatherLaws.{gathered}
use Rattle.query_rests.proofs.PatternLaws.{named_first, named_most}
use Rattle.query_rests.proofs.gather_back.Goals as goal

pub way_between-way-requires : goal.way_between-way-requires
way_between-way-requires c = (search rules, search rules, search named_first, search named_most)

pub returns-clause-z_after : goal.returns-clause-z_after
returns-clause-z_after c = search gathered

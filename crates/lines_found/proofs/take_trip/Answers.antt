use borrow.Author.Rules.{rules}
use Rattle.lines_found.specs.Taken.{end_inside, taken_to}
use Rattle.lines_found.proofs.take_trip.Goals as goal

pub link-requires-clause-course_bound : goal.link-requires-clause-course_bound
link-requires-clause-course_bound c = search end_inside

pub returns-clause-chains_len_2 : goal.returns-clause-chains_len_2
returns-clause-chains_len_2 c = (search rules, search taken_to)

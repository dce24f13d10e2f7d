use borrow.Author.Rules.{rules}
use Rattle.lines_found.proofs.GlanceLaws.{is_course, is_arrival}
use Rattle.lines_found.proofs.look_at.Goals as goal

pub returns-clause-course_value : goal.returns-clause-course_value
returns-clause-course_value c = (search is_course, search rules)

pub returns-clause-arrive_value : goal.returns-clause-arrive_value
returns-clause-arrive_value c = search is_arrival

use Rattle.lines_found.proofs.GlanceLaws.{end_there, floor_there, not_linked, is_linked}
use Rattle.lines_found.proofs.link.Goals as goal

pub returns-then-line-lines-clause-chosen : goal.returns-then-line-lines-clause-chosen
returns-then-line-lines-clause-chosen c = search not_linked

pub bounds-chains-course-3 : goal.bounds-chains-course-3
bounds-chains-course-3 c = search end_there

pub bounds-chains-course-4 : goal.bounds-chains-course-4
bounds-chains-course-4 c = search floor_there

pub returns-clause-chosen : goal.returns-clause-chosen
returns-clause-chosen c = search is_linked

-- A pattern names two stations for each change and then the target, and has a ride more than changes.
use Rattle.query_arcs.specs.Arcs.{read_path, read_long, read_rides}
use borrow.Author.Rules.{rules}
use Rattle.query_arcs.proofs.read_arc.Goals as goal

pub returns-clause-path_after : goal.returns-clause-path_after
returns-clause-path_after c = (search read_path, search read_long, search read_rides, search rules, search rules)

-- What is found first along the arc of the connection that is shown is that connection.
use Rattle.query_winner.specs.Leader.{leader_winning}
use Rattle.query_winner.proofs.find_shown.Goals as goal

pub returns-clause-winning : goal.returns-clause-winning
returns-clause-winning c = search leader_winning

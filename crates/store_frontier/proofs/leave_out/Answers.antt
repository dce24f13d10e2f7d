-- What stands at the arrival's stop is compared, and 0 is put there if it is low or more.
use Rattle.store_frontier.specs.Front.{out_yes, out_no}
use Rattle.store_frontier.proofs.leave_out.Goals as goal

pub returns-then-at_least-clause-left_out : goal.returns-then-at_least-clause-left_out
returns-then-at_least-clause-left_out c = search out_yes

pub returns-clause-left_out : goal.returns-clause-left_out
returns-clause-left_out c = search out_no

-- A departure is settled by those behind it.
use borrow.Author.Rules.{rules}
use Rattle.store_frontier.proofs.PassLaws.{words_long, accepted, stations_most_lem, stop_within, next_within}
use Rattle.store_frontier.proofs.PassLaws.{next_arrives, next_some, next_few, first_long, next_caught, inside}
use Rattle.store_frontier.proofs.PassLaws.{inside_high, pass_more}
use Rattle.store_frontier.proofs.pass.Goals as goal

pub stop_at-stop-requires : goal.stop_at-stop-requires
stop_at-stop-requires c = (search words_long, search stations_most_lem, search stop_within)

pub leave_bound-bound-requires : goal.leave_bound-bound-requires
leave_bound-bound-requires c = (
  search words_long,
  search accepted,
  search rules,
  search next_within,
  search next_arrives,
  search next_some,
  search next_few,
  search first_long,
  search next_caught,
  search rules,
  search rules,
  search rules,
  search rules,
)

pub note-requires : goal.note-requires
note-requires c = (search inside, search inside, search inside_high)

pub returns : goal.returns
returns c = let given = c.requires in record {
  passed = search
      (pass_more, given.0, given.2, given.3, given.5, given.6, given.7, given.8);
  q_len =
      (search (rules, given.5), search (rules, given.6), search (rules, given.7));
}

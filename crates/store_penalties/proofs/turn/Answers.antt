-- The stop at place x of the order begins a ride that no one has taken yet, and one departure more is done.
use borrow.Author.Rules.{rules}
use Rattle.store_penalties.proofs.TurnLaws.{listed_in, few, stop_few, departing, once}
use Rattle.store_penalties.proofs.turn.Goals as goal

pub word-i-requires : goal.word-i-requires
word-i-requires c = search listed_in

pub stop_at-s-requires : goal.stop_at-s-requires
stop_at-s-requires c = (search rules, search few, search stop_few)

pub ride-requires : goal.ride-requires
ride-requires c = (
  search rules,
  search rules,
  search rules,
  search rules,
  search rules,
  search rules,
  search rules,
  search departing,
)

pub returns : goal.returns
returns c = let given = c.requires in
    record { swept_2 = search (once, given); v_len_unchanged = (search rules, search rules, search rules) }

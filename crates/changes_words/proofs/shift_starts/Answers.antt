use Prim.Native.Nat.{◌-◌}
use borrow.Author.Rules.{rules}
use Rattle.timetable.specs.Access.{stations_few, stops_few}
use Rattle.changes_words.proofs.StartLaws.{place_few, next_few, end_after, end_small, ends_first, end_more}
use Rattle.changes_words.proofs.StartLaws.{ends_done}
use Rattle.changes_words.proofs.shift_starts.Goals as goal

pub start_at-first-requires : goal.start_at-first-requires
start_at-first-requires c = (search rules, search stations_few, search stops_few, search place_few)

pub loop-k-init : goal.loop-k-init
loop-k-init c = (search rules, search rules, search rules, search ends_first)

pub start_at-end-requires : goal.start_at-end-requires
start_at-end-requires c = (search rules, search stations_few, search stops_few, search next_few)

pub overflow_sub-starts : goal.overflow_sub-starts
overflow_sub-starts c = search end_after

pub overflow_cast-starts : goal.overflow_cast-starts
overflow_cast-starts c = record { fits = search end_small }

pub loop-k-preserved : goal.loop-k-preserved
loop-k-preserved c = (search rules, search rules, search rules, search end_more)

pub returns-clause-starts_after : goal.returns-clause-starts_after
returns-clause-starts_after c = search ends_done

use mathlib.Core.Path.{refl, sym}
use Prim.Native.Nat.{◌-◌}
use native.Mathlib.Omega.{arith}
use borrow.Author.Rules.{rules}
use lib.ListN.{set, length-set}
use Rattle.words.specs.Put.{put_none}
use Rattle.timetable.specs.Words.{stop_words}
use Rattle.lines_alone.proofs.NumberLaws.{number_small}
use Rattle.lines_alone.proofs.DrawLaws.{start_held, next_counted, next_few, next_small, next_room, trip_more}
use Rattle.lines_alone.proofs.DrawLaws.{start_more, trips_drawn, starts_drawn, all_counted}
use Rattle.lines_alone.proofs.draw_trips.Goals as goal

pub loop-z-init : goal.loop-z-init
unfolding stop_words
loop-z-init c = (
  search rules,
  search rules,
  search rules,
  search rules,
  refl,
  sym (put_none _ _),
  start_held c.args.starts.now (omega arith),
)

pub home_of-home-requires : goal.home_of-home-requires
home_of-home-requires c = (search rules, search rules, search rules, search number_small)

pub draw_trip-requires : goal.draw_trip-requires
draw_trip-requires c = (search rules, search rules, search rules, search rules, search next_room)

pub overflow_cast-starts : goal.overflow_cast-starts
overflow_cast-starts c = record { fits = search next_small }

pub loop-z-preserved : goal.loop-z-preserved
loop-z-preserved c = let a = c.args in
    let x = c.home_of-home in
    let told = c.requires.numbers_value.0 in
    let number = c.word in
    let zeroed = set a.starts.now 0 0 in (
      search rules,
      search next_few,
      search rules,
      search rules,
      next_counted a.v.now a.trips c.loop-z.z c.loop-z.count c.loop-z.invariant.4 a.numbers.now
          told number.result number.ensures.0 x.result x.ensures.value (omega arith),
      trip_more a.v.now a.trips c.loop-z.z c.loop-z.count c.loop-z.invariant.4 a.numbers.now told
          number.result number.ensures.0 x.result x.ensures.value (omega arith) a.at
          a.body.now c.loop-z.body c.requires.trips_in_bounds.3 c.loop-z.invariant.5
          c.draw_trip.new.body c.draw_trip.ensures.body_after,
      start_more a.v.now a.trips c.loop-z.z c.loop-z.count c.loop-z.invariant.4 a.numbers.now told
          number.result number.ensures.0 x.result x.ensures.value (omega arith) zeroed
          c.loop-z.starts c.loop-z.invariant.6
          (omega (arith, length-set a.starts.now 0 0, c.requires.trips_in_bounds.0)),
    )

pub returns-clause-body_after : goal.returns-clause-body_after
returns-clause-body_after c = search trips_drawn

pub returns-clause-starts_after : goal.returns-clause-starts_after
returns-clause-starts_after c = search starts_drawn

pub returns-clause-value : goal.returns-clause-value
returns-clause-value c = search all_counted

-- The header, the words of stations and stops, the starts and the numbers are put one behind the other: one put of them
-- all.
use Rattle.std.proofs.Common.{rules}
use Rattle.words.specs.Below.{below_none, below_more}
use Rattle.timetable_writing.proofs.WriteLaws.{front_written}
use Rattle.timetable_writing.proofs.write_front.Goals as goal

pub narrow-requires : goal.narrow-requires
narrow-requires c = (search rules, search (rules, below_none, below_more))

pub returns : goal.returns
returns c = let a = c.args in record {
  timetable_after = front_written a.stations a.trips a.stops c.requires.0
      c.requires.1 c.requires.2 a.body.now
      a.starts.now a.numbers.now a.timetable.now c.requires.3 c.requires.4 c.requires.5
      c.narrow.new.dst c.copy.new.dst c.copy-2.new.dst c.copy-3.new.dst
      c.copy-3.ensures.dst_after c.copy-2.ensures.dst_after
      c.copy.ensures.dst_after c.narrow.ensures.dst_after;
  timetable_len_unchanged = search rules;
}

-- The same minute once more changes nothing, nor does one at which the nodes are quiet; another one adds its own marks.
use Rattle.timetable.specs.Access.{stations_few}
use Rattle.store_minutes.specs.Prepared.{long_enough_lem, accepted}
use Rattle.store_minutes.specs.Seeking.{place_inside, stop_few, sought_same, sought_more}
use Rattle.store_minutes.specs.Looking.{minute_few, sounded_same, sounded_over, sought_over, sounded_more}
use mathlib.Core.Path.{◌∙◌}
use borrow.Author.Rules.{rules}
use Rattle.store_minutes.proofs.mark_departure.Goals as goal

pub minute_at-d-requires : goal.minute_at-d-requires
minute_at-d-requires c = (search long_enough_lem, search (stations_few, accepted), search place_inside, search stop_few)

pub returns-then-d-last : goal.returns-then-d-last
returns-then-d-last c = (
  search sought_same,
  search sounded_same,
  search rules,
  search rules,
  search rules,
  search rules,
  search rules,
  search rules,
)

pub is_quiet-requires : goal.is_quiet-requires
is_quiet-requires c = (search minute_few, search rules)

pub returns-then-is_quiet : goal.returns-then-is_quiet
returns-then-is_quiet c = (
  search sought_over,
  search sounded_over,
  search rules,
  search rules,
  search rules,
  search rules,
  search rules,
  search rules,
)

pub note_reach-requires : goal.note_reach-requires
note_reach-requires c = let e = c.requires in
    (minute_few _ _ _ _ e.0 _ _ e.2 _ e.3 _ e.14 e.15 _ c.minute_at-d.ensures, e.8)

pub returns : goal.returns
returns c = let e = c.requires in
    let m = c.mark_minute-node.ensures in
    let is = c.minute_at-d.ensures in (
      sought_more _ _ _ _ e.0 _ _ e.2 _ e.3 _ e.14 e.15 _ _ _ _ _ e.16 _ _ _ is m.0 m.1,
      sounded_more _ _ _ _ e.0 _ _ e.2 _ e.3 _ e.14 e.15 _ is _ _ _ e.17 _ _ m.2
          c.note_reach.ensures.reach_after e.8,
      c.note_reach.ensures.reach_len_unchanged ∙ e.8,
      search rules,
      search rules,
      search rules,
      search rules,
      search rules,
    )

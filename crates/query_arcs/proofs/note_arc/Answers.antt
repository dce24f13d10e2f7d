-- The first words of the array are the stations of the arc; its own least penalties are merged into those before it.
use Rattle.query_arcs.specs.Merged.{span_short, outside_span, bound_more}
use Rattle.query_arcs.specs.Arcs.{store_made, source_listed, path_long, stations_are, arc_few, noted_more}
use borrow.Author.Rules.{rules}
use Rattle.query_arcs.proofs.note_arc.Goals as goal

pub read_arc-r-requires : goal.read_arc-r-requires
read_arc-r-requires c = (search store_made, search rules, search rules)

pub note_pattern-reached-requires-clause-listed : goal.note_pattern-reached-requires-clause-listed
note_pattern-reached-requires-clause-listed c = (search source_listed, search rules)

pub note_pattern-reached-requires-clause-le_r : goal.note_pattern-reached-requires-clause-le_r
note_pattern-reached-requires-clause-le_r c = (search rules, search rules, search path_long, search stations_are)

pub merge-requires : goal.merge-requires
merge-requires c = (
  search arc_few,
  search span_short,
  search outside_span,
  search rules,
  search rules,
  search rules,
  search rules,
)

pub returns-clause-p_after : goal.returns-clause-p_after
returns-clause-p_after c = (
  search rules,
  search rules,
  search rules,
  bound_more _ _ _ _ _ _ c.requires.6 c.merge.ensures.merged.0,
  noted_more _ _ _ _ _ _ _ _ _ _ _ _ _ _ c.merge.ensures.merged.0 c.requires.6 c.requires.7
      c.note_pattern-reached.ensures.lowered
      c.requires.5 c.requires.1 c.requires.2 c.read_arc-r.ensures.path_after.0 c.read_arc-r.ensures.path_after.1
      c.read_arc-r.ensures.path_after.3 c.merge.ensures.mine_len_unchanged.1,
)

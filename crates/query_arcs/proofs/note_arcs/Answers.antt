use mathlib.Core.Path.{refl}
use Rattle.query_arcs.specs.Merged.{bound_first}
use Rattle.query_arcs.specs.Arcs.{noted_first, noted_idle, noted_all}
use Rattle.query_arcs.specs.Arcs.{noted_end, store_words, store_made, counted_target}
use borrow.Author.Rules.{rules}
use Rattle.query_arcs.proofs.note_arcs.Goals as goal

pub arc_count-arcs-requires : goal.arc_count-arcs-requires
arc_count-arcs-requires c = search store_words

pub loop-k-init : goal.loop-k-init
loop-k-init c = (
  search rules,
  search rules,
  search rules,
  search rules,
  refl,
  search rules,
  search rules,
  refl,
  refl,
  search bound_first,
  search noted_first,
)

pub counts-requires : goal.counts-requires
counts-requires c = (search store_made, search rules)

pub loop-k-preserved-then-not-counts : goal.loop-k-preserved-then-not-counts
loop-k-preserved-then-not-counts c = (
  search rules,
  search rules,
  search rules,
  search rules,
  search rules,
  search rules,
  search rules,
  search rules,
  search rules,
  search rules,
  search noted_idle,
)

pub note_arc-requires : goal.note_arc-requires
note_arc-requires c = (
  search rules,
  search rules,
  search counted_target,
  search rules,
  search rules,
  search rules,
  search rules,
  search rules,
  search rules,
  search rules,
  search rules,
  search rules,
  search rules,
)

pub returns : goal.returns
returns c = (search noted_all, search noted_end, search rules, search rules)

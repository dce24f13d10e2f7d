-- The minutes before m are merged, and those from m on are as they were.
use mathlib.Core.Path.{◌≡◌}
use lib.ListN.{length}
use Rattle.query_arcs.specs.Merged.{Merging}
use Rattle.query_arcs.proofs.merge.Given as goal

abbrev pub invariant-loop-m : goal.invariant-loop-m
invariant-loop-m l = (length l.mine ≡ 2880)
    × (length l.best ≡ 2880)
    × (length l.who ≡ 2880)
    × Merging l.k l.m l.initial.mine l.initial.best l.initial.who l.mine l.best l.who

-- Of the values of all fields, the first k stand in the array, and the text from index from on spells the others. With
-- the eighth value, or where no other is left, the array holds what it has to.
use Rattle.std.proofs.Common.{◌≡◌, ◌≤◌, length, take, drop}
use Rattle.words.specs.Put.{put}
use Rattle.text_shapes.specs.Values.{line_values}
use Rattle.text_shapes.proofs.ValueLaws.{left_from}
use Rattle.text_shapes.proofs.field_values.Given as goal

abbrev pub invariant-loop-k : goal.invariant-loop-k
invariant-loop-k l = (l.from ≤ length l.s)
    × (l.k ≤ length (line_values l.kind l.s))
    × (drop l.k (line_values l.kind l.s) ≡ left_from l.kind l.k l.s l.from)
    × (l.values ≡ put 0 (take l.k (line_values l.kind l.s)) l.initial.values)

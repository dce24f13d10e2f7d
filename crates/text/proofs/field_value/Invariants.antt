-- The value of the digits read and the digits left make up the field's value. No more than four digits are read, so
-- that the value stays below 10,000 and no product wraps.
use Rattle.std.proofs.Common.{◌≡◌, ◌≤◌, ◌<◌, length, drop}
use Rattle.text.specs.Number.{field_value, decimal}
use Rattle.text.proofs.DigitLaws.{tens}
use Rattle.text.proofs.field_value.Given as goal

abbrev pub invariant-loop-b : goal.invariant-loop-b
invariant-loop-b l = (length l.field ≤ 4)
    × (l.value < tens l.b-index)
    × (field_value l.field ≡ decimal l.value (drop l.b-index l.field))

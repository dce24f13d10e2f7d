use Rattle.std.proofs.Common.{◌≡◌, refl, sym, arith, rules}
use Rattle.words.specs.Put.{put_none}
use Rattle.text_shapes.proofs.ValueLaws.{last_count, last_stored, more_long, more_left, more_stored}
use Rattle.text_shapes.proofs.field_values.Goals as goal

pub loop-k-init : goal.loop-k-init
loop-k-init c = (search rules, search rules, refl, sym (put_none _ _))

pub returns-then-end-n : goal.returns-then-end-n
returns-then-end-n c = (search last_count, search last_stored)

pub loop-k-preserved : goal.loop-k-preserved
loop-k-preserved c = (omega arith, search more_long, search more_left, search more_stored)

pub returns : goal.returns
returns c =
    let all : c.loop-k.k ≡ 8 = omega arith in
    (omega (arith, c.loop-k.invariant.1), rw all at c.loop-k.invariant.3)

use Rattle.std.proofs.Common.{rules, ◌≤◌, ◌<◌, length, get_or, sym, ap, ◌∙◌, arith, take_all}
use Rattle.words.specs.Put.{put, put_none}
use Rattle.words.proofs.CopyLaws.{number_another}
use Rattle.words.specs.Below.{below_each}
use Rattle.words.proofs.narrow.Goals as goal

pub loop-i-init : goal.loop-i-init
loop-i-init c = sym (put_none _ _)

pub overflow_cast-dst : goal.overflow_cast-dst
overflow_cast-dst c = let small : get_or c.args.src.now c.loop-i.i 0 < 65536 = search below_each in
    omega (arith, small)

pub loop-i-preserved : goal.loop-i-preserved
loop-i-preserved c =
    number_another c.args.at c.loop-i.i _ _ _ _ c.loop-i.invariant (omega arith) (omega arith)
    (search rules)

pub returns-clause-dst_after : goal.returns-clause-dst_after
returns-clause-dst_after c =
    let all : length c.args.src.now ≤ c.loop-i.i = omega arith in
    c.loop-i.invariant ∙ ap (λ l. put c.args.at l c.args.dst.now) (take_all c.loop-i.i c.args.src.now all)

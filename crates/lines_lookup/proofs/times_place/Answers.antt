use mathlib.Core.Path.{refl}
use native.Mathlib.Omega.{arith}
use Rattle.lines_lookup.proofs.LookupLaws.{product}
use Rattle.lines_lookup.proofs.times_place.Goals as goal

pub overflow_mul-result-2 : goal.overflow_mul-result-2
overflow_mul-result-2 c = let h = product c.args.p c.args.l.trips c.requires.3 c.requires.2 in
    record { fits = omega arith }

pub overflow_mul-result-3 : goal.overflow_mul-result-3
overflow_mul-result-3 c = let h = product c.args.p c.args.l.trips c.requires.3 c.requires.2 in
    record { fits = omega arith }

pub overflow_add-result-4 : goal.overflow_add-result-4
overflow_add-result-4 c = let h = product c.args.p c.args.l.trips c.requires.3 c.requires.2 in
    record { fits = omega (arith, c.requires) }

pub returns : goal.returns
returns c = let h = product c.args.p c.args.l.trips c.requires.3 c.requires.2 in
    (refl, omega (arith, c.requires))

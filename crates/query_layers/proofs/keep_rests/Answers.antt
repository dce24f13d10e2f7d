use Prim.Native.Nat.{◌-◌}
use borrow.Author.Rules.{rules}
use Rattle.query_rests.proofs.PatternLaws.{given_part, rest_more, rest_done}
use Rattle.query_layers.proofs.LayerLaws.{kept_begins, layers_begin, layers_again, layers_done}
use Rattle.query_layers.proofs.keep_rests.Goals as goal

pub loop-j-init : goal.loop-j-init
loop-j-init c = (search kept_begins, search rules, search layers_begin, search rules, search rules, search rules)

pub step-requires : goal.step-requires
step-requires c = (search given_part, search rules, search rules, search rules, search rules)

pub loop-j-preserved : goal.loop-j-preserved
loop-j-preserved c = (
  rest_more _ _ _ _ _ c.requires.0 _ _ (c.loop-j.j - 1) _ _ c.requires.1 c.loop-j.invariant.0 (search rules)
      c.step.ensures.z_after.0,
  search rules,
  search layers_again,
  search rules,
  search rules,
  search rules,
)

pub returns-clause-layers : goal.returns-clause-layers
returns-clause-layers c = (
  search layers_done,
  rest_done _ _ _ _ _ c.requires.0 _ _ _ _ c.loop-j.invariant.0 (search rules),
  search rules,
  search rules,
)

-- A word holds no more than NO_POINTS, so that lowering by what a word holds of the sum is lowering by the sum.
use Rattle.query_rests.proofs.RestLaws.{note_held}
use borrow.Author.Rules.{rules}
use Rattle.query_rests.proofs.note_sum.Goals as goal

pub returns : goal.returns
returns c = let word = (c.slice_known-1.given c.args.m).fits in
    record { z_after = search note_held; z_len_unchanged = search rules }

-- After i turns the first i words of src stand in dst, from index at on, and every other word is as it was.
use Rattle.std.proofs.Common.{◌≡◌, take}
use Rattle.words.specs.Put.{put}
use Rattle.words.proofs.copy.Given as goal

abbrev pub invariant-loop-i : goal.invariant-loop-i
invariant-loop-i g l = l.dst ≡ put l.at (take l.i l.src) l.initial.dst

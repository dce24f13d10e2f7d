-- A word is below 65,536, and so fits 32 bits.
use Rattle.std.proofs.Common.{arith, rules}
use Rattle.words.proofs.word.Goals as goal

pub overflow_cast-result : goal.overflow_cast-result
overflow_cast-result c = omega arith

pub returns : goal.returns
returns c = (search rules, omega arith)

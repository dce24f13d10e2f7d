use Prim.Native.Nat.{◌-◌}
use borrow.Author.Rules.{rules}
use Rattle.query_winner.specs.Keys.{word_less, word_more, word_same, words_same}
use Rattle.query_winner.proofs.words_before.Goals as goal

pub returns-then-a-i : goal.returns-then-a-i
returns-then-a-i c = search word_less

pub returns-then-b-i : goal.returns-then-b-i
returns-then-b-i c = search word_more

pub loop-i-preserved : goal.loop-i-preserved
loop-i-preserved c = search word_same

pub returns : goal.returns
returns c = search words_same

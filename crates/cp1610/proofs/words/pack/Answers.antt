-- `pack`: the words of the state, with each flag as a number.
use Rattle.cp1610.specs.Words.{packed}
use Rattle.cp1610.proofs.WordLaws.{cast-flag}
use Rattle.cp1610.proofs.words.pack.Goals as goal

pub returns : goal.returns
unfolding packed
returns c = rw c.put.ensures (simp cast-flag)

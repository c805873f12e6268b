-- The sum test, as the code makes it.
use Rattle.image.proofs.sum_agrees.Goals as goal

pub returns : goal.returns
returns c = rw c.wrapping_add.ensures

use Rattle.std.proofs.Common.{length}
use Rattle.test_vectors.proofs.vector.put_cells.Given as goal

abbrev pub decreases-loop-cell : goal.decreases-loop-cell
decreases-loop-cell l = length l.ahead.rest.now

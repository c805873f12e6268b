use Rattle.std.specs.Iterator.Adapters.{enumerate_count}
use Rattle.test_vectors.specs.Count.{Counted}
use Rattle.test_vectors.proofs.run_lines.Given as goal

abbrev pub invariant-loop-lines : goal.invariant-loop-lines
invariant-loop-lines g l = Counted (enumerate_count l.lines-iterator) l.tally

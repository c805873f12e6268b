use Rattle.std.proofs.Common.{◌≡◌, length}
use Rattle.harness.specs.Text.{rows_left}
use Rattle.harness.specs.Cases.{cases_left}
use Rattle.harness.proofs.cases.CasesIterator.next.Given as goal

abbrev pub invariant-loop-first : goal.invariant-loop-first
invariant-loop-first l = cases_left l.self ≡ cases_left l.initial.self

abbrev pub decreases-loop-first : goal.decreases-loop-first
decreases-loop-first l = length (rows_left l.self.rows)

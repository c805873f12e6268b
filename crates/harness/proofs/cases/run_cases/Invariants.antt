-- `run_cases`: what is judged and counted from here on makes, with what was, the whole.
use Rattle.std.proofs.Common.{◌≡◌, ◌+◌, ◌%◌, ◌^◌, ◌<◌, length}
use Rattle.std.specs.List.{FoldsTo}
use Rattle.harness.specs.Cases.{cases_of, cases_left, Judged, IsJudged}
use Rattle.harness.proofs.cases.run_cases.Given as goal

abbrev pub invariant-loop-case : goal.invariant-loop-case
invariant-loop-case g l =
    (l.tally.cases < 2 ^ 64)
    × ((l.tally.cases + length (cases_left l.case-iterator)) % 2 ^ 64 ≡ length (cases_of l.input) % 2 ^ 64)
    × ((last : _) (tally : _)
    → FoldsTo (IsJudged g.J.Judge.judges) (l.judge, l.tally) (cases_left l.case-iterator) (last, tally)
    → Judged g.J.Judge.judges l.fn.judge last (cases_of l.input) tally)

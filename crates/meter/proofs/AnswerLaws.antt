-- No two answers of the meter are reported alike.
use Prim.Native.Nat.{ℕ}
use mathlib.Core.Path.{◌≡◌, refl}
use Rattle.std.specs.Prelude.{Option, Some, None}
use Rattle.refusal.proofs.ReportLaws.{told-apart, reported-apart}
use Rattle.meter.specs.declared.Walked.{Walked}
use Rattle.meter.specs.declared.Walked.TheVariants.{Wait, Over, Halts, Unspecified}
use Rattle.meter.specs.declared.LongestWait.{LongestWait}
use Rattle.meter.specs.declared.Findings.{Findings}
use Rattle.meter.specs.Answer.{Answer, wait, over, halts, unspecified, Longest, no_wait, longest, Lowest, no_over, over_at, Named, answer_of, longest_of, lowest_of, named_in}
use Rattle.meter.specs.Laws.{ReportsApart}

-- what a term stands for, read back
walked_back : Answer → Walked
walked_back (wait n) = Wait n
walked_back over = Over
walked_back halts = Halts
walked_back (unspecified a) = Unspecified a

walked-back : (w : Walked) → walked_back (answer_of w) ≡ w
unfolding walked_back
walked-back (Wait n) = refl
walked-back Over = refl
walked-back Halts = refl
walked-back (Unspecified a) = refl

longest_back : Longest → Option LongestWait
longest_back no_wait = None
longest_back (longest n start) = Some (record { cycles = n; start = start })

longest-back : (l : Option LongestWait) → longest_back (longest_of l) ≡ l
unfolding longest_back
longest-back None = refl
longest-back (Some l) = refl

lowest_back : Lowest → Option ℕ
lowest_back no_over = None
lowest_back (over_at start) = Some start

lowest-back : (o : Option ℕ) → lowest_back (lowest_of o) ≡ o
unfolding lowest_back
lowest-back None = refl
lowest-back (Some start) = refl

findings_back : Named → Findings
findings_back n = record { longest = longest_back n.longest_wait; lowest = lowest_back n.lowest_over }

findings-back : (f : Findings) → findings_back (named_in f) ≡ f
unfolding findings_back
findings-back f = rw (longest-back f.longest, lowest-back f.lowest)

pub reports-apart : ReportsApart
reports-apart =
    record {
      waits = reported-apart answer_of (told-apart answer_of walked_back walked-back);
      regions = reported-apart named_in (told-apart named_in findings_back findings-back);
    }

-- The counts of a run over lines of text.
use Rattle.std.specs.Prelude.{ℕ, ◌+◌, ◌≤◌, ◌≡◌}
use Rattle.test_vectors.specs.declared.report.Tally.{Tally}

-- n lines were read: each is counted once, as a vector or as malformed, and only a vector can be a mismatch
pub record Counted (n : ℕ) (t : Tally) : Type 0 where
  pub lines : t.vectors + t.malformed ≡ n
  pub mismatches : t.mismatches ≤ t.vectors

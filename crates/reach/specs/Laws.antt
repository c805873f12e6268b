-- What holds of the reached set: the paths fix its buffers, and its summary counts what the paths lead to.
use Rattle.std.specs.Prelude.{ℕ, ◌≡◌, Bool, true, List, ◌↔◌}
use Rattle.refusal.specs.Report.{Report, refused, OneToOne}
use Rattle.memory.specs.Bus.{Bus}
use Rattle.bitset.specs.Bits.{in_either}
use Rattle.reach.specs.declared.Node.{Node}
use Rattle.reach.specs.Ways.{node_at, writes_at}
use Rattle.reach.specs.Paths.{Reached}
use Rattle.reach.specs.Summary.{is_writer, SetSummary}
use Rattle.reach.specs.Answer.{reach_report}
use Rattle.reach.specs.Reach.{ReachedSet, reach_of, Reaches}

-- two pairs of buffers that hold the same reached set are equal
pub record SameBuffers (clear set clear' set' : List ℕ) : Type 0 where
  pub clears : clear ≡ clear'
  pub sets : set ≡ set'

abbrev pub ReachedSetIsOne : Type 0
ReachedSetIsOne =
    (next : Node → List Node) (entries clear set clear' set' : List ℕ) →
    ReachedSet next entries clear set →
    ReachedSet next entries clear' set' →
    SameBuffers clear set clear' set'

-- so one call has one outcome: its answer, and every word of both buffers
pub record SameOutcome (clear set : List ℕ) (r : Report SetSummary) (clear' set' : List ℕ) (r' : Report SetSummary) : Type 0 where
  pub buffers : SameBuffers clear set clear' set'
  pub answers : r ≡ r'

abbrev pub ReachIsOne : Type 0
ReachIsOne =
    (b : Bus) (entries clear set clear₁ set₁ clear₂ set₂ : List ℕ) (r₁ r₂ : Report SetSummary) →
    Reaches b entries clear set clear₁ set₁ r₁ →
    Reaches b entries clear set clear₂ set₂ r₂ →
    SameOutcome clear₁ set₁ r₁ clear₂ set₂ r₂

-- whether the call is refused, and by which number, does not hang on what it leaves
abbrev pub RefusesAlike : Type 0
RefusesAlike =
    (b : Bus) (entries clear set clear₁ set₁ clear₂ set₂ : List ℕ) (n : ℕ) →
    reach_of b entries clear set clear₁ set₁ ≡ refused n →
    reach_of b entries clear set clear₂ set₂ ≡ refused n

-- a path leads to an address with one D or the other
pub record ReachedAddress (next : Node → List Node) (entries : List ℕ) (a : ℕ) : Type 0 where
  pub double : Bool
  pub reached : Reached next entries (node_at a double)

-- .. and with that D the row there writes R7
pub record ReachedWriter (read : ℕ → ℕ) (next : Node → List Node) (entries : List ℕ) (a : ℕ) : Type 0 where
  pub double : Bool
  pub reached : Reached next entries (node_at a double)
  pub writes : writes_at read (node_at a double) ≡ true

-- what the summary's counts count, each address once; `LowestLaws` of `bitset` says what the lowest is
pub record SummaryLaws : Type 0 where
  pub addresses :
      (next : Node → List Node) (entries clear set : List ℕ) →
      ReachedSet next entries clear set →
      (a : ℕ) →
      (in_either clear set a ≡ true) ↔ ReachedAddress next entries a
  pub writers :
      (read : ℕ → ℕ) (next : Node → List Node) (entries clear set : List ℕ) →
      ReachedSet next entries clear set →
      (a : ℕ) →
      (is_writer read clear set a ≡ true) ↔ ReachedWriter read next entries a

-- no two answers are reported alike
abbrev pub ReachAnswersApart : Type 0
ReachAnswersApart = OneToOne reach_report

-- What holds of the walk, of the words that it reads, and of what the meters answer.
use Rattle.std.specs.Prelude.{ℕ, suc, ◌<◌, ◌≤◌, ◌≡◌, true, List, [], ◌∷◌, ◌↔◌, length}
use Rattle.refusal.specs.Report.{answered, UnlessRefused, OneToOne}
use Rattle.memory.specs.Bus.{Bus, read_of}
use Rattle.bitset.specs.Bits.{set_length, contains}
use Rattle.decode.specs.Reads.{decoding_reads}
use Rattle.meter.specs.declared.walk.Place.{Place}
use Rattle.meter.specs.Answer.{Answer, wait, over, Longest, no_wait, longest, Lowest, no_over, over_at, Named, wait_report, region_report}
use Rattle.meter.specs.Walk.{limit_of, turn_at, after_turn, walk_on, walk_from}
use Rattle.meter.specs.Meter.{answer_from, wait_of, region_of, region_reached_of}
use Rattle.meter.specs.Reads.{reads_on}

-- document 01's walk by its own rules: one turn, and from where that leads the same walk
abbrev pub WalkEquation : Type 0
WalkEquation =
    (read : ℕ → ℕ) (limit : ℕ) (p : Place) →
    walk_on read limit p ≡ after_turn (λ a. a) (walk_on read limit) (turn_at read limit p)

-- the words that it reads, likewise
abbrev pub ReadsEquation : Type 0
ReadsEquation =
    (read : ℕ → ℕ) (limit : ℕ) (p : Place) →
    reads_on read limit p ≡ decoding_reads read p.address ∷ after_turn (λ a. []) (reads_on read limit) (turn_at read limit p)

-- "unless it refuses, it answers exactly what document 01's walk answers there"
abbrev pub AnswersTheWalk : Type 0
AnswersTheWalk =
    (b : Bus) (a limit : ℕ) →
    UnlessRefused (λ x. x ≡ walk_from (read_of b) (limit_of limit) a) (wait_of b a limit)

-- an address of those from first on, before end, that is a start: `Member` says which addresses are
pub record StartIn (Member : ℕ → Type 0) (first end s : ℕ) : Type 0 where
  pub from : first ≤ s
  pub to : s < end
  pub member : Member s

-- a wait w at a start of those from first on, before end, and that it is the longest and the start its lowest
pub record LongestAt (Member : ℕ → Type 0) (answers : ℕ → Answer) (first end w start : ℕ) : Type 0 where
  pub start_is : StartIn Member first end start
  pub waits : answers start ≡ wait w
  -- "every other start that has a wait has at most this one"
  pub others : (s v : ℕ) → StartIn Member first end s → answers s ≡ wait v → v ≤ w
  -- "and a lower start less"
  pub lower : (s v : ℕ) → StartIn Member first start s → answers s ≡ wait v → v < w

-- "the longest wait that this walk answers, if any, and its lowest start are named"
abbrev pub LongestIs : (ℕ → Type 0) → (ℕ → Answer) → ℕ → ℕ → Longest → Type 0
LongestIs Member answers first end no_wait = (s w : ℕ) → StartIn Member first end s → answers s ≡ wait w → ⊥
LongestIs Member answers first end (longest w start) = LongestAt Member answers first end w start

-- a start over the limit of those from first on, before end, and that it is the lowest
pub record LowestAt (Member : ℕ → Type 0) (answers : ℕ → Answer) (first end start : ℕ) : Type 0 where
  pub start_is : StartIn Member first end start
  pub exceeds : answers start ≡ over
  pub lowest : (s : ℕ) → StartIn Member first end s → answers s ≡ over → start ≤ s

-- document 01: "and the lowest Over start, or that there is none"
abbrev pub LowestIs : (ℕ → Type 0) → (ℕ → Answer) → ℕ → ℕ → Lowest → Type 0
LowestIs Member answers first end no_over = (s : ℕ) → StartIn Member first end s → answers s ≡ over → ⊥
LowestIs Member answers first end (over_at start) = LowestAt Member answers first end start

pub record NamedIs (Member : ℕ → Type 0) (answers : ℕ → Answer) (first end : ℕ) (n : Named) : Type 0 where
  pub longest_is : LongestIs Member answers first end n.longest_wait
  pub lowest_is : LowestIs Member answers first end n.lowest_over

-- it goes by which addresses are starts, and not by how that is said
abbrev pub SameStarts : Type 1
SameStarts =
    (Member Member' : ℕ → Type 0) → ((a : ℕ) → Member a ↔ Member' a) →
    (answers : ℕ → Answer) (first end : ℕ) (n : Named) →
    NamedIs Member answers first end n → NamedIs Member' answers first end n

-- "every address a start"
abbrev pub EveryAddress : ℕ → Type 0
EveryAddress a = Unit

-- "For a region, unless the call is refused, the longest wait that this walk answers, if any, and its lowest start are named"
abbrev pub NamesItsStarts : Type 0
NamesItsStarts =
    (b : Bus) (first last limit : ℕ) →
    UnlessRefused (NamedIs EveryAddress (answer_from b limit) first (suc last)) (region_of b first last limit)

-- Document 02, [4]: "Demand 3 for this mode ranges over members only."
abbrev pub NamesItsMembers : Type 0
NamesItsMembers =
    (b : Bus) (first last limit : ℕ) (clear set : List ℕ) →
    UnlessRefused (NamedIs (λ a. contains clear a ≡ true) (answer_from b limit) first (suc last)) (region_reached_of b first last limit clear set)

-- what holds of the second mode beside the first
pub record SecondMode : Type 0 where
  -- with every address of the region in the set it answers as the first
  pub as_first : (b : Bus) (first last limit : ℕ) (clear set : List ℕ) →
      length clear ≡ set_length → length set ≡ set_length → ((a : ℕ) → first ≤ a → a ≤ last → contains clear a ≡ true) →
      region_reached_of b first last limit clear set ≡ region_of b first last limit
  -- what the buffer of the addresses reached with D set holds does not count
  pub set_unread : (b : Bus) (first last limit : ℕ) (clear set set' : List ℕ) →
      length set ≡ length set' → region_reached_of b first last limit clear set ≡ region_reached_of b first last limit clear set'
  -- where it answers, so does the meter for each address: what the walk answers there
  pub waits_answer : (b : Bus) (first last limit : ℕ) (clear set : List ℕ) →
      UnlessRefused (λ n. (s : ℕ) → wait_of b s limit ≡ answered (answer_from b limit s)) (region_reached_of b first last limit clear set)

-- no two answers are reported alike
pub record ReportsApart : Type 0 where
  pub waits : OneToOne wait_report
  pub regions : OneToOne region_report

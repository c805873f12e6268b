-- What a loading answers and leaves, whatever the form of its file.
use Rattle.std.specs.Prelude.{ℕ, ◌≤◌, ◌<◌, ◌≡◌, cond, ◌⊎◌, List, length, Result}
use Rattle.refusal.specs.declared.Refusal.{Refusal}
use Rattle.refusal.specs.declared.Refusal.TheVariants.{MemoryTooLong, PastMemory}
use Rattle.refusal.specs.Refusals.{refusal_number, reported}
use Rattle.refusal.specs.Report.{Report, refused, answered, OneToOne}
use Rattle.memory.specs.Memory.{peek_of, too_long}
use Rattle.records.specs.Records.{Record, is_within, overwrite, placed}

-- "The loader answers the number of records"; of a pair "the answer is the number of mapping lines"
abbrev pub load_reported : Result ℕ Refusal → Report ℕ
load_reported answer = reported (λ records. records) answer

-- no two answers are reported alike
abbrev pub LoadAnswersApart : Type 0
LoadAnswersApart = OneToOne load_reported

-- all that a loading leaves: what it reports, and the memory
pub record Loading : Type 0 where
  pub answer : Report ℕ
  pub memory : List ℕ

-- a refusal leaves every word as it was
abbrev pub refuse_load : List ℕ → Refusal → Loading
refuse_load m r = record { answer = refused (refusal_number r); memory = m }

-- these records were read, and are put into memory
abbrev pub accept_load : List ℕ → List Record → Loading
accept_load m rs = record { answer = answered (length rs); memory = placed m rs }

-- the outcome that the code's answer and the memory at its return stand for
abbrev pub loaded : Result ℕ Refusal → List ℕ → Loading
loaded r m = record { answer = load_reported r; memory = m }

-- what can come of a loading into m: a refusal, and every word is as it was; or an answer, of at most so many records
abbrev pub RefusesOrLoads : List ℕ → ℕ → Loading → Type 0
RefusesOrLoads m most after =
    ((r : Refusal) × (after ≡ refuse_load m r)) ⊎ ((n : ℕ) × ((after.answer ≡ answered n) × (n ≤ most)))

-- a loading into n, by so many records, of the words ws from address a on: refused by 1 or 11, or the words are laid there
abbrev pub laying : ℕ → List ℕ → ℕ → List ℕ → Loading
laying records n a ws =
    cond (too_long n) (refuse_load n MemoryTooLong)
    (cond (is_within (length n) a (length ws)) (record { answer = answered records; memory = overwrite n a ws })
    (refuse_load n PastMemory))

-- two loadings that come to the same: equal memory, and an answer of both, or the same refusal
abbrev pub SameEnd : Report ℕ → Report ℕ → Type 0
SameEnd (answered x) (answered y) = Unit
SameEnd (answered x) (refused y) = ⊥
SameEnd (refused x) (answered y) = ⊥
SameEnd (refused x) (refused y) = x ≡ y

pub record LoadedAlike (l k : Loading) : Type 0 where
  pub memory : l.memory ≡ k.memory
  pub answer : SameEnd l.answer k.answer

-- what a loading into n leaves, if it puts just the words from first to last of m there, by so many records
pub record PutBack (records : ℕ) (m : List ℕ) (first last : ℕ) (n : List ℕ) (after : Loading) : Type 0 where
  pub answer : after.answer ≡ answered records
  pub region : (a : ℕ) → first ≤ a → a ≤ last → peek_of after.memory a ≡ peek_of m a
  pub below : (a : ℕ) → a < first → peek_of after.memory a ≡ peek_of n a
  pub above : (a : ℕ) → last < a → peek_of after.memory a ≡ peek_of n a
  pub size : length after.memory ≡ length n

-- Document 02, [4]: the reached set and the region meter's second mode together. "The meter counts operand words as starts and frightens people": in the
-- second mode a wait starts only where a path leads.
use Rattle.std.specs.Prelude.{ℕ, suc, ◌-◌, ◌^◌, ◌<◌, ◌≡◌, List, [], ◌∷◌, length, replicate}
use Rattle.refusal.specs.Report.{answered, UnlessRefused}
use Rattle.memory.specs.Bus.{Bus, bus_of, read_of}
use Rattle.bitset.specs.Bits.{set_length, inserted}
use Rattle.meter.specs.Answer.{Named, longest, no_over}
use Rattle.meter.specs.Meter.{answer_from, wait_of, region_of, region_reached_of}
use Rattle.meter.specs.Laws.{NamedIs}
use Rattle.reach.specs.Ways.{clear_at, successors}
use Rattle.reach.specs.Paths.{Reached}
use Rattle.reach.specs.Reach.{ReachedSet}

-- a path leads to the address with D clear, "over unchanged memory"
abbrev pub ReachedClear : Bus → List ℕ → ℕ → Type 0
ReachedClear b entries a = Reached (successors (read_of b)) entries (clear_at a)

-- what the second mode names of a region
pub record NamesReached (b : Bus) (entries : List ℕ) (first last limit : ℕ) (n : Named) : Type 0 where
  -- the longest Wait, its lowest start and the lowest Over start of exactly those addresses of the region to which a path leads with D clear
  pub named : NamedIs (ReachedClear b entries) (answer_from b limit) first (suc last) n
  -- where each start's answer is that of the meter for its address
  pub answers : (s : ℕ) → wait_of b s limit ≡ answered (answer_from b limit s)

-- so it does with a set that is built over the same memory and map (`Reaches` of the reached set's contract says that the buffers hold it)
abbrev pub MetersReachedStarts : Type 0
MetersReachedStarts =
    (b : Bus) (entries clear set : List ℕ) (first last limit : ℕ) →
    ReachedSet (successors (read_of b)) entries clear set →
    UnlessRefused (NamesReached b entries first last limit) (region_reached_of b first last limit clear set)

-- with every bit of `clear` set it answers as the first mode
abbrev pub every_bit : List ℕ
every_bit = replicate set_length (2 ^ 64 - 1)

abbrev pub AllBitsAsFirst : Type 0
AllBitsAsFirst =
    (b : Bus) (first last limit : ℕ) (set : List ℕ) →
    last < 65536 →
    length set ≡ set_length →
    region_reached_of b first last limit every_bit set ≡ region_of b first last limit

pub record ReachedStarts : Type 0 where
  pub meters : MetersReachedStarts
  pub as_first : AllBitsAsFirst

-- The premise is met, and the two modes differ: B $0000 at address 0, whose displacement reads as SDBD, and three words of data that read as MVO@ R0,R1,
-- CLRC and NOP.
abbrev pub branch_and_data : Bus
branch_and_data = bus_of (0x220 ∷ 1 ∷ 0x248 ∷ 0x006 ∷ 0x034 ∷ [])

-- the set of no address, and that of address 0 alone
abbrev pub no_address : List ℕ
no_address = replicate 1024 0

abbrev pub only_zero : List ℕ
only_zero = inserted no_address 0

pub record ReachedInstance : Type 0 where
  pub set : ReachedSet (successors (read_of branch_and_data)) (0 ∷ []) only_zero no_address
  -- every address a start: from the displacement on a request waits 4, 9, 4 and 6 cycles
  pub first_mode : region_of branch_and_data 0 4 0 ≡ answered (record { longest_wait = longest 23 1; lowest_over = no_over })
  -- "its region's members reached with D clear": B alone, 9 cycles
  pub second_mode : region_reached_of branch_and_data 0 4 0 only_zero no_address ≡ answered (record { longest_wait = longest 9 0; lowest_over = no_over })

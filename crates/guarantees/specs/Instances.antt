-- Demand 3 is not empty: machines that meet its premises, with the meter's answer and the cycles after which the bus is granted.
use Rattle.std.specs.Prelude.{ℕ, ◌≡◌, Bool, true, false, List, [], ◌∷◌, replicate}
use Rattle.refusal.specs.Report.{answered}
use Rattle.memory.specs.declared.map.Kind.{Kind}
use Rattle.memory.specs.declared.map.Kind.TheVariants.{Rom, Ram8}
use Rattle.memory.specs.declared.map.Board.{Board}
use Rattle.memory.specs.Bus.{Bus, bus_of, bus_on, read_of}
use Rattle.cpu.specs.declared.Lines.{Lines}
use Rattle.cpu.specs.Machine.{Machine, register}
use Rattle.cpu.specs.Step.{step_of}
use Rattle.cpu.specs.Steps.{steps_from, cycles_of_all}
use Rattle.meter.specs.Answer.{Answer, wait, over, longest, over_at}
use Rattle.meter.specs.Meter.{wait_of, region_of}
use Rattle.guarantees.specs.Grants.{grants, before_grant}
use Rattle.guarantees.specs.Demand.{Premises}

-- a machine at address 0 with R0, R1 and I; no other register, flag or mark is set
abbrev pub machine : ℕ → ℕ → Bool → Machine
machine r0 r1 i =
    record {
      registers = r0 ∷ r1 ∷ 0 ∷ 0 ∷ 0 ∷ 0 ∷ 0 ∷ 0 ∷ [];
      flags = record { s = false; z = false; o = false; c = false };
      switches = record { i = i; d = false };
      running = record { halted = false; ready = false };
      intrm = record { level = true; mark = false };
    }

-- three steps with the bus request low: alone, and with INTRM low and every external input 1
abbrev pub thrice : Lines → List Lines
thrice l = l ∷ l ∷ l ∷ []

abbrev pub request : Lines
request = record { intrm = true; busrq = false; external = 0 }

abbrev pub disturbed : Lines
disturbed = record { intrm = false; busrq = false; external = 0xFFFF }

-- a machine, a bus and lines meet the premises of demand 3; the meter answers so, and the grant comes after so many cycles
pub record Shows (m : Machine) (b : Bus) (ls : List Lines) (limit : ℕ) (answer : Answer) (cycles : ℕ) : Type 0 where
  pub premises : Premises m b ls limit
  pub answers : wait_of b (register 7 m) limit ≡ answered answer
  pub granted : grants (steps_from m b ls) ≡ true
  pub after : cycles_of_all (before_grant (steps_from m b ls)) ≡ cycles

-- MVO@ R0,R1 and NOP
abbrev pub storing : Bus
storing = bus_of (0x248 ∷ 0x034 ∷ [])

-- a board of one kind over all addresses
abbrev pub board_of_kind : Kind → Board
board_of_kind k = record { ranges = replicate 16 (record { first = 0; last = 0xFFFF; kind = k }); count = 1 }

-- the same words as cartridge ROM and as 8-bit RAM; and with a high byte loaded into NOP's word, which the opcode does not count
abbrev pub storing_rom : Bus
storing_rom = bus_on (board_of_kind Rom) (0x248 ∷ 0x034 ∷ [])

abbrev pub storing_ram8 : Bus
storing_ram8 = bus_on (board_of_kind Ram8) (0x248 ∷ 0x034 ∷ [])

abbrev pub storing_loaded : Bus
storing_loaded = bus_on (board_of_kind Ram8) (0x248 ∷ 0x1034 ∷ [])

-- CLRC and BC
abbrev pub branching : Bus
branching = bus_of (0x006 ∷ 0x201 ∷ 0 ∷ [])

-- MVO@ R0,R1 and BC
abbrev pub displacing : Bus
displacing = bus_of (0x248 ∷ 0x201 ∷ 3 ∷ [])

-- MVO R0,$0001 four times, 11 cycles each, and NOP: the stores go to the first one's operand, which the walk does not read
abbrev pub storing_direct : Bus
storing_direct = bus_of (0x240 ∷ 1 ∷ 0x240 ∷ 1 ∷ 0x240 ∷ 1 ∷ 0x240 ∷ 1 ∷ 0x034 ∷ [])

pub record NotEmpty : Type 0 where
  -- R1 is 0, so the store goes to its own opcode word, which the walk has read by then
  pub opcode : Shows (machine 5 0 false) storing (thrice request) 0 (wait 15) 15
  pub opcode_changed : read_of (step_of (machine 5 0 false) storing request).bus 0 ≡ 5
  -- R1 is 2, so the store goes to the displacement, which the step of BC reads and the walk does not. BC is not taken, and the grant comes
  -- after 2 less; so it does with I set and INTRM low
  pub displacement : Shows (machine 5 2 true) displacing (thrice disturbed) 0 (wait 18) 16
  pub displacement_changed : read_of (step_of (machine 5 2 true) displacing disturbed).bus 2 ≡ 5
  -- R1 is 1: the store goes to NOP's word, which the walk reads later. In ROM it does nothing, and in 8-bit RAM it keeps the low byte, which stands there
  -- already with a high byte of 0
  pub rom : Shows (machine 5 1 false) storing_rom (thrice request) 0 (wait 15) 15
  pub low_byte : Shows (machine 0xFF34 1 false) storing_ram8 (thrice request) 0 (wait 15) 15
  -- the same low byte onto a word with a loaded high byte changes that word: the premise does not hold
  pub loaded_high_byte : Premises (machine 0x34 1 false) storing_loaded (thrice request) 0 → ⊥
  -- BC is not taken: 4 and 9, and the grant comes after 2 less
  pub untaken : Shows (machine 0 0 false) branching (thrice request) 0 (wait 13) 11
  -- the same at limit 12: the wait is over it, and the grant comes after 12 less 1
  pub exceeded : Shows (machine 0 0 false) branching (thrice request) 12 over 11
  -- document 02, [5]: "A limit of 0 should mean 48." The wait of 50 is over it, and the grant comes no earlier than after 48 less 1; at 57 it is what it was
  pub default : Shows (machine 5 0 false) storing_direct (replicate 6 request) 0 over 50
  pub explicit : Shows (machine 5 0 false) storing_direct (replicate 6 request) 57 (wait 50) 50
  -- NOP, NOP, CLRC, NOP at limit 6: waits of 6 from 0, 1 and 3, and 2 is over it
  pub region :
      region_of (bus_of (0x034 ∷ 0x034 ∷ 0x006 ∷ 0x034 ∷ [])) 0 3 6
      ≡ answered (record { longest_wait = longest 6 0; lowest_over = over_at 2 })

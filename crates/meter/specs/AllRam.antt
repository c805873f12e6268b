-- Document 02, [1]: "An all-RAM map (one 16-bit range over all addresses) equals today's behaviour on every input": the meter's calls, of every memory,
-- that above 65,536 words too.
use Rattle.std.specs.Prelude.{ℕ, ◌≡◌, List}
use Rattle.memory.specs.declared.map.Board.{Board}
use Rattle.memory.specs.Bus.{bus_of, bus_on}
use Rattle.memory.specs.Laws.{AllRam}
use Rattle.meter.specs.Meter.{wait_of, region_of, region_reached_of}

pub record AllRamMeter : Type 0 where
  pub waits : (b : Board) (m : List ℕ) → AllRam b → (a limit : ℕ) → wait_of (bus_on b m) a limit ≡ wait_of (bus_of m) a limit
  pub regions : (b : Board) (m : List ℕ) → AllRam b → (first last limit : ℕ) → region_of (bus_on b m) first last limit ≡ region_of (bus_of m) first last limit
  pub reached : (b : Board) (m : List ℕ) → AllRam b → (first last limit : ℕ) (clear set : List ℕ) → region_reached_of (bus_on b m) first last limit clear set ≡ region_reached_of (bus_of m) first last limit clear set

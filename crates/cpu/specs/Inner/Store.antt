-- What the code's MVO leaves: its change, from what it read, and the memory with its store made.
use Rattle.std.specs.Prelude.{ℕ, ◌≡◌, List}
use Rattle.memory.specs.Bus.{Bus, stored}
use Rattle.decode.specs.declared.Instr.TheVariants.{Store}
use Rattle.cpu.specs.declared.Status.{Status}
use Rattle.cpu.specs.declared.change.Change.{Change}
use Rattle.cpu.specs.Inner.Change.{effect_at, cycles_at, Leaves}

-- the external inputs do not count
pub record Stores (s d pc : ℕ) (r : List ℕ) (k : Status) (read : ℕ → ℕ) (b : Bus) (x : Change) (after : Bus) : Type 0 where
  pub change : (external : ℕ) → Leaves x r (effect_at (Store s d) pc r k read external).machine (cycles_at (Store s d) pc r k external)
  pub memory : (external : ℕ) → after ≡ stored b (effect_at (Store s d) pc r k read external).store

-- An all-RAM map lets in whom plain memory does, and then reads alike.
use Rattle.std.proofs.Common.{Result, Ok, Err}
use mathlib.Core.Path.{◌≡◌, refl}
use Rattle.refusal.specs.declared.Refusal.{Refusal}
use Rattle.memory.specs.Bus.{bus_of, bus_on, admission_of}
use Rattle.memory.proofs.AllRamLaws.{all-ram-laws}
use Rattle.listing.specs.Disassemble.{disassemble_of}
use Rattle.listing.specs.AllRam.{AllRamLists}

pub all-ram-lists : AllRamLists
unfolding disassemble_of
all-ram-lists b m h at double room = go (admission_of (bus_of m)) refl
  where
    go : (x : Result (Unit {0}) Refusal) → admission_of (bus_of m) ≡ x → disassemble_of (bus_on b m) at double room ≡ disassemble_of (bus_of m) at double room
    go (Ok u) e = rw (all-ram-laws.admits b m h, all-ram-laws.reads b m h e)
    go (Err r) e = rw (all-ram-laws.admits b m h, e)

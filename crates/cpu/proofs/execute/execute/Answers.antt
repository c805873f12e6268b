-- Each kind of instruction has its row.
use Prim.Native.Nat.{ℕ}
use mathlib.Core.Path.{refl}
use Rattle.std.proofs.Common.{arith, inl, inr}
use Rattle.std.proofs.lemmas.Bool.Decides.{nat_tests}
use Rattle.cpu.proofs.RowAnswers.{halt-leaves, idle-leaves}
use Rattle.cpu.proofs.execute.execute.Goals as goal

-- a row that reads no memory holds with any reader, and one that is no branch with any external inputs
abbrev none : ℕ → ℕ
none a = 0

pub control-requires : goal.control-requires
control-requires c = grind (arith, nat_tests)

pub single-requires : goal.single-requires
single-requires c = grind (arith, nat_tests)

pub shifted-requires : goal.shifted-requires
shifted-requires c = grind (arith, nat_tests)

pub register-requires : goal.register-requires
register-requires c = grind (arith, nat_tests)

pub store-requires : goal.store-requires
store-requires c = grind (arith, nat_tests)

pub read-requires : goal.read-requires
read-requires c = grind (arith, nat_tests)

pub returns-in-Hlt : goal.returns-in-Hlt
returns-in-Hlt c =
    let a = c.args in
    rw (c.in-Hlt.is, c.goes_on.ensures, c.halt_row.ensures) record { change = halt-leaves a.begun.status a.begun.pc _ none 0; memory = refl }

pub returns-in-Control : goal.returns-in-Control
returns-in-Control c = rw c.in-Control.is record { change = c.control.ensures _ none 0; memory = refl }

pub returns-in-Jump : goal.returns-in-Jump
returns-in-Jump c = rw c.in-Jump.is record { change = c.jump.ensures _ 0; memory = refl }

pub returns-in-Single : goal.returns-in-Single
returns-in-Single c = rw c.in-Single.is record { change = c.single.ensures none 0; memory = refl }

pub returns-in-Gswd : goal.returns-in-Gswd
returns-in-Gswd c = rw c.in-Gswd.is record { change = c.gswd.ensures _ none 0; memory = refl }

pub returns-in-Nop : goal.returns-in-Nop
returns-in-Nop c =
    let a = c.args in
    rw (c.goes_on-in-Nop.ensures, c.register_row.ensures) elim c.in-Nop.is [
      | inl w ↦ rw w.1 record { change = idle-leaves a.begun.status a.begun.pc _ none 0 0; memory = refl }
      | inr w ↦ rw w.1 record { change = idle-leaves a.begun.status a.begun.pc _ none 0 0; memory = refl }
    ]

pub returns-in-Shift : goal.returns-in-Shift
returns-in-Shift c = rw c.in-Shift.is record { change = c.shifted.ensures none 0; memory = refl }

pub returns-in-Register : goal.returns-in-Register
returns-in-Register c = rw c.in-Register.is record { change = c.register.ensures none 0; memory = refl }

pub returns-in-Branch : goal.returns-in-Branch
returns-in-Branch c = grind (arith, nat_tests)

pub returns-in-Store : goal.returns-in-Store
returns-in-Store c =
    let stores = c.store.ensures in
    rw c.in-Store.is record { change = stores.change 0; memory = stores.memory 0 }

pub returns-in-Read : goal.returns-in-Read
returns-in-Read c = rw c.in-Read.is record { change = c.read.ensures 0; memory = refl }

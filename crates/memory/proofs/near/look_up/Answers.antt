-- `near::look_up`: by whether the range at hand holds the address, then by the range that decides.
use Rattle.std.proofs.Common.{refl}
use Rattle.memory.specs.Near.{near_of}
use Rattle.memory.proofs.NearLaws.{front-empty, some-there}
use Rattle.memory.proofs.near.look_up.Goals as goal

pub returns-then-holds : goal.returns-then-holds
unfolding near_of
returns-then-holds c =
    let a = c.args in
    rw (front-empty a.board a.near a.address, ← c.holds.ensures, c.if-holds.true) record { near = refl; there = refl }

pub returns-else-holds : goal.returns-else-holds
unfolding near_of
returns-else-holds c =
    let a = c.args in
    rw (front-empty a.board a.near a.address, ← c.holds.ensures, c.if-holds.false, ← c.find.ensures)
    record { near = refl; there = some-there c.find.result }

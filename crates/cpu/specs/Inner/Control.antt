-- C or I after a control row, and a jump's return register as a number, as the code has them.
use Rattle.std.specs.Prelude.{ℕ, ◌+◌, ◌/◌, ◌%◌, Bool, true, false, cond, eqb}
use Rattle.cpu.specs.Inner.Change.{no_register}

-- a mark after the row d, where one row sets it and another clears it
unfoldable pub switched : ℕ → ℕ → ℕ → Bool → Bool
switched d sets clears old = cond (eqb d sets) true (cond (eqb d clears) false old)

unfoldable pub return_register : ℕ → ℕ
return_register second = cond (eqb (second / 256 % 4) 3) no_register (second / 256 % 4 + 4)

-- Document 02, [4]: where a path goes on from an instruction. A node is an address, and the D with which the instruction there is reached. The memory
-- is a reader, from an address to the word there.
use Rattle.std.specs.Prelude.{ℕ, Bool, false, cond, ◌||◌, List, [], ◌∷◌, Option, None, Some}
use Rattle.word.specs.Word.{wrap_add}
use Rattle.decode.specs.declared.Instr.{Instr}
use Rattle.decode.specs.declared.Instr.TheVariants.{Hlt, Control, Jump, Single, Gswd, Nop, Sin, Shift, Register, Branch, Store, Read}
use Rattle.decode.specs.declared.rows.Row.{Row}
use Rattle.decode.specs.Fields.{branch_target, is_always, is_nopp, Return, return_of, has_return, jump_target}
use Rattle.decode.specs.Decode.{writes_r7, decode_at}
use Rattle.decode.specs.Rows.{row_of}
use Rattle.reach.specs.declared.Node.{Node}

abbrev pub node_at : ℕ → Bool → Node
node_at a d = record { address = a; double = d }

-- "entry points, D clear"; so are the targets of branches and jumps
abbrev pub clear_at : ℕ → Node
clear_at a = node_at a false

-- "fall-through": behind the instruction's words, with the D that its row leaves. Behind a JSR this is its return address.
abbrev pub onward_of : Node → Row → Node
onward_of n row = node_at (wrap_add n.address row.words) row.double

-- "both ways of a branch (B only its target, NOPP only onward)"; b is bits 5 to 0 of the opcode
unfoldable pub branch_ways : Node → Node → ℕ → List Node
branch_ways onward target b =
    cond (is_always b) (target ∷ []) (cond (is_nopp b) (onward ∷ []) (onward ∷ target ∷ []))

-- "jump targets, and the return address of each JSR"
unfoldable pub jump_ways : Node → Node → Return → List Node
jump_ways onward target return = cond (has_return return) (onward ∷ target ∷ []) (target ∷ [])

-- where an instruction that does not end a path leads to, by its row
abbrev pub instruction_ways : (ℕ → ℕ) → Node → Row → Instr → List Node
instruction_ways read n row Hlt = onward_of n row ∷ []
instruction_ways read n row (Control d) = onward_of n row ∷ []
instruction_ways read n row Jump =
    let second : ℕ = read (wrap_add n.address 1) in
    jump_ways (onward_of n row) (clear_at (jump_target second (read (wrap_add n.address 2)))) (return_of second)
instruction_ways read n row (Single s d) = onward_of n row ∷ []
instruction_ways read n row (Gswd d) = onward_of n row ∷ []
instruction_ways read n row (Nop b) = onward_of n row ∷ []
instruction_ways read n row (Sin b) = onward_of n row ∷ []
instruction_ways read n row (Shift s d) = onward_of n row ∷ []
instruction_ways read n row (Register r s d) = onward_of n row ∷ []
instruction_ways read n row (Branch b) =
    branch_ways (onward_of n row) (clear_at (branch_target n.address b (read (wrap_add n.address 1)))) b
instruction_ways read n row (Store s d) = onward_of n row ∷ []
instruction_ways read n row (Read r s d) = onward_of n row ∷ []

-- "HLT, an unspecified form and any other row that writes its result to R7 end a path"
abbrev pub decoded_ways : (ℕ → ℕ) → Node → Option Instr → List Node
decoded_ways read n None = []
decoded_ways read n (Some i) =
    cond ((row_of i n.double).halts || writes_r7 i) [] (instruction_ways read n (row_of i n.double) i)

-- the nodes that a node leads to
unfoldable pub successors : (ℕ → ℕ) → Node → List Node
successors read n = decoded_ways read n (decode_at read n.address n.double)

-- the instruction at a node is "any other row that writes its result to R7": a stack read into R7 is one with D clear, and under D an
-- unspecified form
abbrev pub decoded_writes : Option Instr → Bool
decoded_writes None = false
decoded_writes (Some i) = writes_r7 i

unfoldable pub writes_at : (ℕ → ℕ) → Node → Bool
writes_at read n = decoded_writes (decode_at read n.address n.double)

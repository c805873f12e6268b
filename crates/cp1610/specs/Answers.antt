-- The C interface page, "Answers": every result as 64 bits.
use Rattle.std.specs.Prelude.{ℕ, ◌+◌, ◌*◌, Bool, List, ◌∷◌, ltb, drop}
use Rattle.refusal.specs.Report.{Report, refused, answered}
use Rattle.cpu.specs.Answer.{StepDone}
use Rattle.run.specs.Run.{RunDone}

-- "A value below 2^32 is a refusal"
abbrev pub is_refusal : ℕ → Bool
is_refusal result = ltb result 0x100000000

-- "255 where a `state`, `out` or `words` buffer is shorter than its table says", or a `map` is none
abbrev pub short_buffer : ℕ
short_buffer = 255

-- "the high 32 bits are the kind, the low 32 the value (0 where the table names none)"
unfoldable pub success_word : ℕ → ℕ → ℕ
success_word kind value = kind * 0x100000000 + value

-- a count as a result: "2^32 + number of records", "2^32 + number of mapping lines"
abbrev pub counted_word : Report ℕ → ℕ
counted_word (refused n) = n
counted_word (answered n) = success_word 1 n

-- a refusal is document 01's number, and a step's kinds are its numbers 3, 4 and 5
abbrev pub answer_word : Report StepDone → ℕ
answer_word (refused n) = n
answer_word (answered x) = success_word x.kind x.cycles

-- "out = steps, cycles, cause"
abbrev pub run_length : ℕ
run_length = 3

-- `out` after a run: "the items past what is named stay"; "cause (0 halted, 1 unspecified, 2 budget)" is the run's own number
unfoldable pub run_words : List ℕ → RunDone → List ℕ
run_words out x = x.steps ∷ x.cycles ∷ x.cause ∷ drop run_length out

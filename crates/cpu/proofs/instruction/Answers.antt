-- An instruction is refused by what the decoder says, and else makes its row's change.
use Prim.Native.Nat.{ℕ}
use mathlib.Core.Path.{◌≡◌, refl, ap, sym, ◌∙◌}
use lib.ListN.{get_or}
use Rattle.word.specs.Word.{wrap_add}
use Rattle.memory.specs.Bus.{bus_on, read_of}
use Rattle.memory.specs.Near.{in_front}
use Rattle.decode.specs.Decode.{decode_at}
use Rattle.decode.proofs.DecodeLaws.{decodes-in-range}
use Rattle.cpu.specs.Machine.{with_register}
use Rattle.cpu.specs.Step.{refused_step}
use Rattle.cpu.proofs.CodeLaws.{fetched-decodes, instruction-is}
use Rattle.cpu.proofs.instruction.Goals as goal
use Rattle.cpu.proofs.instruction.Goals.{After-specified_at}

-- what is decoded, read with the range at hand after the fetch
decodes : (s : After-specified_at) →
    let a = s.args in
    s.specified_at.result ≡ decode_at (read_of (bus_on (in_front s.fetch-fetched.result.near a.board) a.mem.now)) (get_or a.registers 7 0) a.status.d
decodes s =
    let a = s.args in
    fetched-decodes a.board a.given s.fetch-fetched.result.near a.mem.now (get_or a.registers 7 0) s.fetch-fetched.result.word a.status.d
    s.fetch-fetched.ensures.near
    s.fetch-fetched.ensures.word
    s.instruction-read.ensures
    s.specified_at.ensures

pub returns-in_default : goal.returns-in_default
unfolding refused_step
returns-in_default c =
    rw (c.finished.ensures, ← decodes (goal.at.returns-in_default c).After-specified_at, c.in_default.is) record { left = refl; near = c.fetch-fetched.ensures.near }

pub execute-change-requires : goal.execute-change-requires
execute-change-requires c =
    decodes-in-range _ _ _ _ (sym (decodes (goal.at.execute-change-requires c).After-specified_at) ∙ c.in-Some.is)

pub returns : goal.returns
returns c =
    let a = c.args in
    let lent = bus_on a.board a.mem.now in
    let seen : c.put_next-seen.result ≡ with_register 7 (wrap_add (get_or a.registers 7 0) 1) a.registers =
    c.put_next-seen.ensures ∙ ap (λ (n : ℕ). with_register 7 n a.registers) c.wrapping_add.ensures in
    rw (c.finished-2.ensures, c.written.ensures) record {
      left = instruction-is a.registers a.status c.requires _ lent (bus_on (in_front c.fetch-fetched.result.near a.board) a.mem.now) _ a.lines _ c.execute-change.result c.put_next-seen.result
          (sym (decodes (goal.at.returns c).After-specified_at) ∙ c.in-Some.is)
          seen
          c.execute-change.ensures.change
          c.execute-change.ensures.memory;
      near = c.fetch-fetched.ensures.near;
    }

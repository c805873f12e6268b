-- `types::are_sound`: the registers are an array of eight, lent as words.
use borrow.Author.Rules.{rules}
use Rattle.memory.proofs.Laws.{words_fit}
use Rattle.cpu.proofs.types.are_sound.Goals as goal

pub returns : goal.returns
returns c =
    let registers = c.args.state.registers in
    (record { eight = search rules; words = words_fit registers c.are_words.ensures.0 }, c.are_words-2.ensures.1, c.are_words-2.ensures.2)

-- `types::are_words`: each element of a slice is a value of its type.
use Rattle.std.proofs.Common.{arith}
use Rattle.memory.proofs.Laws.{fits-words}
use Rattle.memory.proofs.BusLaws.{bus-laws}
use Rattle.memory.proofs.types.are_words.Goals as goal

pub returns : goal.returns
returns c =
    let m = c.args.mem.now in
    let fit = fits-words m (λ a. omega (arith, c.type_inv.mem a)) in
    (fit, bus-laws.words m fit, λ b. bus-laws.words_on b m fit)

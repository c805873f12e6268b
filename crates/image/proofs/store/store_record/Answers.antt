-- The words of a record are read into memory from its address on.
use mathlib.Core.Path.{◌∙◌}
use Rattle.image.proofs.PassLaws.{words-stored}
use Rattle.image.proofs.store.store_record.Goals as goal

pub returns : goal.returns
returns c =
    let a = c.args in
    rw c.size.ensures at c.read_words.ensures ∙ words-stored a.bytes.now a.front.count c.requires.0 a.mem.now a.front.address c.requires.1

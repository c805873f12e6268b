-- The words of a mapping are read into the part of memory that they go to.
use Rattle.pair.proofs.StoreLaws.{mapping-stored}
use Rattle.pair.proofs.store.store_mapping.Goals as goal

pub returns : goal.returns
returns c =
    let a = c.args in
    let m = a.mapping in
    mapping-stored a.bin.now m.first m.last c.requires.0 c.requires.1 a.mem.now _ m.target c.requires.2 c.read_words.ensures

-- The numbers are read into the part of the words that takes them.
use mathlib.Core.Path.{refl}
use Rattle.bigendian.proofs.ReadLaws.{part-stored}
use Rattle.bigendian.proofs.read_words.Goals as goal

pub returns : goal.returns
returns c =
    let a = c.args in
    part-stored a.words.now a.at _ _ _ a.bytes.now c.min-start.ensures refl c.min.ensures c.fill_words.ensures

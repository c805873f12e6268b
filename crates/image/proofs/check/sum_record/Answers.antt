-- The numbers behind the mark, added up.
use Rattle.word.proofs.SetsLaws.{rest}
use Rattle.image.specs.Format.{address_at}
use Rattle.image.proofs.check.sum_record.Goals as goal

pub returns : goal.returns
returns c = rw (rest c.args.bytes.now address_at) at c.sum_words.ensures

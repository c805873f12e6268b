-- `unpack`: each word is read within the first 18, and each mark tested.
use Rattle.cp1610.proofs.WordLaws.{tested-marks}
use Rattle.cp1610.proofs.words.unpack.Goals as goal

pub returns : goal.returns
returns c =
    tested-marks c.args.words.now
    c.is_set.ensures
    c.is_set-2.ensures
    c.is_set-3.ensures
    c.is_set-4.ensures
    c.is_set-5.ensures
    c.is_set-6.ensures
    c.is_set-7.ensures
    c.is_set-8.ensures
    c.is_set-9.ensures
    c.is_set-10.ensures

-- One number compared is the board test of an `ID` head.
use Rattle.image.proofs.LoadLaws.{one-board}
use Rattle.image.proofs.is_for.Goals as goal

pub returns : goal.returns
returns c = one-board c.args.named c.args.board

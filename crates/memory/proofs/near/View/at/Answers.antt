-- `View::at`: its range at hand has no empty word, so it reads what the board does.
use Rattle.memory.specs.Near.{no_range}
use Rattle.memory.proofs.NearLaws.{near-laws}
use Rattle.memory.proofs.near.View.at.Goals as goal

pub returns : goal.returns
returns c =
    let a = c.args in
    near-laws.reads a.board _ a.words.now
    (rw (c.near_to.ensures, c.no_range.ensures) (near-laws.moves a.board no_range a.address (near-laws.none a.board)))

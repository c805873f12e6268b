-- `Line::spells`: what is compared is the line, and no more of the room.
use lib.Seq.{take-append_seam}
use Rattle.listing.specs.Inner.Line.{text_of}
use Rattle.listing.proofs.Lines.{same-slices}
use Rattle.listing.proofs.line.Line.spells.Goals as goal

pub returns : goal.returns
returns c =
    let s = text_of c.args.self.now in
    rw (c.eq.ensures, c.write-length.ensures.0, c.write-length.ensures.1, take-append_seam) (same-slices s c.args.text.now)

-- Either room is short, or both are written.
use Rattle.pair.proofs.WriteLaws.{bin-short, cfg-short, both-written}
use Rattle.pair.proofs.put_region.Goals as goal

pub returns-then-bin-size : goal.returns-then-bin-size
returns-then-bin-size c =
    let a = c.args in
    bin-short a.first a.region.now a.bin.now a.cfg.now c.if-bin-size.true

pub returns-then-cfg-lt-TEXT_BYTES : goal.returns-then-cfg-lt-TEXT_BYTES
returns-then-cfg-lt-TEXT_BYTES c =
    let a = c.args in
    cfg-short a.first a.region.now a.bin.now a.cfg.now c.if-bin-size.false c.if-cfg-lt-TEXT_BYTES.true

pub returns : goal.returns
returns c =
    let a = c.args in
    both-written a.first a.region.now a.bin.now a.cfg.now c.if-bin-size.false c.if-cfg-lt-TEXT_BYTES.false c.put_words.ensures.0 c.put_text.ensures

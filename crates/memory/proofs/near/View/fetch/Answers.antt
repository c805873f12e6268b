-- `View::fetch`: the lent word where the address is not empty.
use Rattle.std.proofs.Common.{◌∙◌}
use Rattle.memory.specs.Map.{cell_at}
use Rattle.memory.specs.Bus.{read_of}
use Rattle.memory.specs.Near.{in_front}
use Rattle.memory.proofs.NearLaws.{read-lent, read_none}
use Rattle.memory.proofs.near.View.fetch.Goals as goal

pub returns-in-Some-clause-word : goal.returns-in-Some-clause-word
unfolding read_of
returns-in-Some-clause-word c =
    let v = c.args.self.now in
    c.lent.ensures ∙ read-lent (cell_at (in_front v.near v.board) c.args.address) v.words.now c.args.address c.in-Some.ensures.there

pub returns-in-None-clause-word : goal.returns-in-None-clause-word
unfolding read_of
returns-in-None-clause-word c =
    let v = c.args.self.now in
    read_none (cell_at (in_front v.near v.board) c.args.address) v.words.now c.args.address c.in-None.ensures.there

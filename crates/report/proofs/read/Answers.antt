-- Over-long input is refused before all; else the reading is what comes of the loading.
use mathlib.Core.Path.{sym, ap, ◌∙◌}
use native.Mathlib.Omega.{arith}
use Rattle.records.specs.Loading.{Loading}
use Rattle.report.specs.Reading.{reading_after}
use Rattle.report.proofs.ReadingLaws.{long-refused, in-limit, loaded-ready}
use Rattle.report.proofs.read.Goals as goal

pub returns-then-input-gt-INPUT_LIMIT : goal.returns-then-input-gt-INPUT_LIMIT
returns-then-input-gt-INPUT_LIMIT c =
    record { reading = sym (long-refused c.args.input.now (omega arith)); ready = tt }

pub returns : goal.returns
returns c =
    let file = c.args.input.now in
    record {
      reading =
          ap (λ (l : Loading). reading_after file l) c.load.ensures
          ∙ rw (c.requires, in-limit file (omega arith));
      ready = loaded-ready c.load.result c.args.memory.now file c.load.ensures (omega arith) (omega arith);
    }

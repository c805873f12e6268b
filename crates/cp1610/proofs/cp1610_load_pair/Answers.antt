-- `cp1610_load_pair`: the reader's word is the result; there are no more lines than bytes of the text.
use native.Mathlib.Omega.{arith}
use lib.ListN.{length}
use Rattle.records.specs.Loading.{load_reported}
use Rattle.cp1610.specs.PairCall.{load_pair_call}
use Rattle.cp1610.proofs.ReportLaws.{told-pair-loading}
use Rattle.cp1610.proofs.EndLaws.{load-ends, load_low}
use Rattle.cp1610.proofs.cp1610_load_pair.Goals as goal

pub count_word-requires : goal.count_word-requires
count_word-requires c =
    let a = c.args in
    load_low a.mem.now c.load_pair.new.mem (length a.cfg.now) (load_reported c.load_pair.result) (told-pair-loading a.mem.now a.bin.now a.cfg.now c.load_pair.ensures) (omega arith)

pub returns : goal.returns
unfolding load_pair_call
returns c =
    let a = c.args in
    let e = c.load_pair.ensures in
    rw (← e, c.count_word.ensures) (load-ends a.mem.now c.load_pair.new.mem (length a.cfg.now) (load_reported c.load_pair.result) (told-pair-loading a.mem.now a.bin.now a.cfg.now e))

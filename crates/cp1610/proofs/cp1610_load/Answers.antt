-- `cp1610_load`: the loader's word is the result; there are no more records than bytes.
use native.Mathlib.Omega.{arith}
use lib.ListN.{length}
use Rattle.records.specs.Loading.{load_reported}
use Rattle.cp1610.specs.ImageCall.{load_call}
use Rattle.cp1610.proofs.ReportLaws.{told-loading}
use Rattle.cp1610.proofs.EndLaws.{load-ends, load_low}
use Rattle.cp1610.proofs.cp1610_load.Goals as goal

pub count_word-requires : goal.count_word-requires
count_word-requires c =
    let a = c.args in
    load_low a.mem.now c.load.new.mem (length a.file.now) (load_reported c.load.result) (told-loading a.board a.mem.now a.file.now c.load.ensures) (omega arith)

pub returns : goal.returns
unfolding load_call
returns c =
    let a = c.args in
    let e = c.load.ensures in
    rw (← e, c.count_word.ensures) (load-ends a.mem.now c.load.new.mem (length a.file.now) (load_reported c.load.result) (told-loading a.board a.mem.now a.file.now e))

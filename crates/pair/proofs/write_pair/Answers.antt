-- A region that is let in is written; another is refused as it was barred.
use mathlib.Core.Path.{sym}
use native.Mathlib.Omega.{arith}
use Rattle.std.proofs.lemmas.Result.{err_from_is_err_and}
use Rattle.records.proofs.LoadLaws.{admitted-region, region-length}
use Rattle.pair.proofs.WriteLaws.{write-barred, write-admitted}
use Rattle.pair.proofs.write_pair.Goals as goal

pub returns-in_err-admit_region : goal.returns-in_err-admit_region
returns-in_err-admit_region c =
    let a = c.args in
    let p = err_from_is_err_and c.from_residual.result c.from_residual.ensures.1 in
    rw (p.1, p.2) (write-barred a.mem.now a.first a.last a.bin.now a.cfg.now (sym c.in_err-admit_region.ensures))

pub slice_bounds-put_region-count : goal.slice_bounds-put_region-count
slice_bounds-put_region-count c =
    let a = c.args in
    let r = admitted-region a.mem.now a.first a.last (sym c.in_ok-admit_region.ensures) in
    omega (arith, r.ordered)

pub slice_bounds-put_region-start : goal.slice_bounds-put_region-start
slice_bounds-put_region-start c =
    let a = c.args in
    let r = admitted-region a.mem.now a.first a.last (sym c.in_ok-admit_region.ensures) in
    omega (arith, r.ordered)

pub slice_bounds-put_region-end : goal.slice_bounds-put_region-end
slice_bounds-put_region-end c =
    let a = c.args in
    let r = admitted-region a.mem.now a.first a.last (sym c.in_ok-admit_region.ensures) in
    omega (arith, r.within)

pub put_region-requires : goal.put_region-requires
put_region-requires c =
    let a = c.args in
    let r = admitted-region a.mem.now a.first a.last (sym c.in_ok-admit_region.ensures) in
    let l = region-length a.mem.now a.first a.last r.ordered r.within in
    (omega (arith, r.ordered), omega arith)

pub returns : goal.returns
returns c =
    let a = c.args in
    write-admitted a.mem.now a.first a.last a.bin.now a.cfg.now (sym c.in_ok-admit_region.ensures) c.put_region.ensures

-- What the first pass answers decides; the second is made only where no test refuses.
use Rattle.std.proofs.lemmas.Result.{err_from_is_err_and}
use Rattle.pair.specs.Read.{mappings_below}
use Rattle.pair.proofs.LoadLaws.{summed, lines-malformed, lines-odd, lines-missing, lines-past, lines_fit, lines_stored}
use Rattle.pair.proofs.load_lines.Goals as goal

pub returns-in_err-checked : goal.returns-in_err-checked
returns-in_err-checked c =
    let a = c.args in
    let p = err_from_is_err_and c.from_residual.result c.from_residual.ensures.1 in
    rw (p.1, p.2) (lines-malformed a.mem.now a.bin.now (mappings_below a.lines.now) _ c.in_err-checked.ensures)

pub returns-then-bin-ne0 : goal.returns-then-bin-ne0
returns-then-bin-ne0 c =
    let a = c.args in
    let s = summed (mappings_below a.lines.now) c.in_ok-checked.ensures in
    lines-odd a.mem.now a.bin.now (mappings_below a.lines.now) s c.if-bin-ne0.true

pub returns-then-bin-checked : goal.returns-then-bin-checked
returns-then-bin-checked c =
    let a = c.args in
    let s = summed (mappings_below a.lines.now) c.in_ok-checked.ensures in
    lines-missing a.mem.now a.bin.now (mappings_below a.lines.now) s c.if-bin-ne0.false c.if-bin-checked.true

pub returns-then-mem-checked : goal.returns-then-mem-checked
returns-then-mem-checked c =
    let a = c.args in
    let s = summed (mappings_below a.lines.now) c.in_ok-checked.ensures in
    lines-past a.mem.now a.bin.now (mappings_below a.lines.now) s c.if-bin-ne0.false c.if-bin-checked.false c.if-mem-checked.true

pub store_lines-requires : goal.store_lines-requires
store_lines-requires c =
    let a = c.args in
    let s = summed (mappings_below a.lines.now) c.in_ok-checked.ensures in
    lines_fit a.mem.now a.bin.now (mappings_below a.lines.now) s c.if-bin-ne0.false c.if-bin-checked.false c.if-mem-checked.false

pub returns : goal.returns
returns c =
    let a = c.args in
    let s = summed (mappings_below a.lines.now) c.in_ok-checked.ensures in
    lines_stored a.mem.now a.bin.now (mappings_below a.lines.now) s c.if-bin-ne0.false c.if-bin-checked.false c.if-mem-checked.false c.store_lines.ensures

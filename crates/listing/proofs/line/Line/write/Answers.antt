-- `Line::write`: the loop's invariant is that the first i bytes of the room are the line's, and the others as they were.
use Rattle.std.proofs.Common.{◌≡◌, sym, ap, ◌∙◌, ◌<◌, arith, length}
use Rattle.listing.specs.Inner.Rows.{template_of}
use Rattle.listing.specs.Inner.Line.{text_of}
use Rattle.listing.proofs.Table.{template-most}
use Rattle.listing.proofs.Lines.{text-length, text_at, write_step, write-end}
use Rattle.listing.proofs.line.Line.write.Goals as goal

pub write_registers-requires : goal.write_registers-requires
write_registers-requires c =
    let e = c.row_at.ensures.template in
    (e, c.requires.0, rw e at c.if-template-eq115.true, c.requires.1)

pub returns-then-template-eq115 : goal.returns-then-template-eq115
returns-then-template-eq115 c =
    (ap length c.row_at.ensures.template ∙ sym (text-length c.args.self.now), c.write_registers.ensures)

pub bounds-text-i : goal.bounds-text-i
bounds-text-i c = omega (arith, ap length c.row_at.ensures.template, template-most c.args.self.now.row c.requires.0)

pub loop-i-preserved : goal.loop-i-preserved
loop-i-preserved c =
    let l = c.args.self.now in
    let v = c.loop-i in
    let e = c.row_at.ensures.template in
    let within : v.i < length (template_of l.row) = rw e at c.loop-i-test.true in
    let most = template-most l.row c.requires.0 in
    let long = text-length l in
    rw (v.invariant, c.glyph.ensures, e, ← text_at l v.i within) (write_step c.args.text.now (text_of l) v.i (omega arith) (omega arith))

pub returns-after-loop-i : goal.returns-after-loop-i
returns-after-loop-i c =
    let l = c.args.self.now in
    let long : length c.row_at.result.now.template.now ≡ length (text_of l) =
    ap length c.row_at.ensures.template ∙ sym (text-length l) in
    (long, c.loop-i.invariant ∙ write-end c.args.text.now (text_of l) c.loop-i.i (omega arith))

-- `Line::write_registers`: the template's ten bytes with the two digits in them are the line's.
use Rattle.std.proofs.Common.{sym, arith}
use Rattle.std.proofs.lemmas.List.{length-take-le}
use Rattle.listing.proofs.Table.{registers-template}
use Rattle.listing.proofs.Lines.{registers-text, registers-length}
use Rattle.listing.proofs.line.Line.write_registers.Goals as goal

pub slice_bounds-copy_from_slice-end-3 : goal.slice_bounds-copy_from_slice-end-3
slice_bounds-copy_from_slice-end-3 c =
    let p = c.requires in
    let long = registers-length c.args.self.now.row p.1 p.2 in
    sym (length-take-le 10 c.args.template.now (rw p.0 (omega arith)))

pub copy_from_slice-requires : goal.copy_from_slice-requires
copy_from_slice-requires c =
    let p = c.requires in
    let long = registers-length c.args.self.now.row p.1 p.2 in
    rw (length-take-le 10 c.args.text.now (omega arith), length-take-le 10 c.args.template.now (rw p.0 (omega arith)))

pub returns : goal.returns
returns c =
    let l = c.args.self.now in
    let p = c.requires in
    rw (
      registers-text l p.1 p.2,
      c.hex_digit.ensures,
      c.hex_digit-2.ensures,
      c.copy_from_slice.ensures.after,
      p.0,
      registers-template l.row p.1 p.2,
    )

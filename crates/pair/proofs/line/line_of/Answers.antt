-- The digits in their places.
use Rattle.std.proofs.Common.{rules}
use Rattle.text.specs.Text.{hex_of}
use Rattle.pair.specs.Format.{mapping_line}
use Rattle.pair.proofs.line.line_of.Goals as goal

pub slice_bounds-line-end-3 : goal.slice_bounds-line-end-3
unfolding hex_of
slice_bounds-line-end-3 c = rw (c.copy_from_slice-2.ensures.after, c.copy_from_slice.ensures.after, c.hex-2.ensures, c.hex.ensures) (search rules)

pub returns : goal.returns
unfolding mapping_line hex_of
returns c = rw (c.copy_from_slice-3.ensures.after, c.copy_from_slice-2.ensures.after, c.copy_from_slice.ensures.after, c.hex-3.ensures, c.hex-2.ensures, c.hex.ensures)

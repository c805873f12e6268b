-- The first line, and one more behind it.
use Rattle.std.proofs.Common.{◌∙◌}
use Rattle.pair.proofs.WriteLaws.{text-put}
use Rattle.pair.proofs.put_text.Goals as goal

pub returns : goal.returns
returns c = text-put c.args.cfg.now c.args.first c.args.words c.copy_from_slice.ensures.after (c.copy_from_slice-2.ensures.after ∙ c.line_of-line.ensures)

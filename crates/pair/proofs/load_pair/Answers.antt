-- The reader goes document 02's way: each return is one of its tests.
use Rattle.std.proofs.Common.{sym, ◌∙◌}
use Rattle.pair.specs.Format.{head_line}
use Rattle.pair.proofs.FrontLaws.{strips-begins}
use Rattle.pair.proofs.LoadLaws.{load-long, load-unheaded, load-headed}
use Rattle.pair.proofs.load_pair.Goals as goal

pub returns-then-is_too_long : goal.returns-then-is_too_long
returns-then-is_too_long c =
    let a = c.args in
    load-long a.mem.now a.bin.now a.cfg.now (sym c.is_too_long.ensures ∙ c.if-is_too_long.true)

pub returns-in_default : goal.returns-in_default
returns-in_default c =
    let a = c.args in
    load-unheaded a.mem.now a.bin.now a.cfg.now (sym c.is_too_long.ensures ∙ c.if-is_too_long.false) (sym (strips-begins a.cfg.now head_line) ∙ c.in_default.ensures.cases)

pub returns : goal.returns
returns c =
    let a = c.args in
    let s = c.in-Some.ensures.cases in
    load-headed a.mem.now a.bin.now a.cfg.now (sym c.is_too_long.ensures ∙ c.if-is_too_long.false) (sym (strips-begins a.cfg.now head_line) ∙ s.0) s.1 c.load_lines.ensures

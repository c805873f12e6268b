-- `put`: a store past the end changes nothing.
use Rattle.std.proofs.Common.{sym}
use Rattle.std.proofs.Math.Seq.{set_out}
use Rattle.memory.specs.Memory.{poke_of}
use Rattle.memory.proofs.put.Goals as goal

pub returns-else-at-mem : goal.returns-else-at-mem
unfolding poke_of
returns-else-at-mem c = sym (set_out _ _ _ c.if-at-mem.false)

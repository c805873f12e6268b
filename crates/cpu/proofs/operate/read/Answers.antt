-- The result of the operand and the destination, written after the pointer.
use Rattle.cpu.proofs.OperateLaws.{read-leaves}
use Rattle.cpu.proofs.operate.read.Goals as goal

pub returns : goal.returns
returns c =
    let pre = c.requires in
    rw (c.writes_to.ensures, c.read_result-result.ensures, c.held-f.ensures, c.destination.ensures, c.wrapping_add-next.ensures, c.fetch-fetched.ensures)
    (read-leaves _ _ c.args.begun.status _ _ _ _ pre.0 pre.1 pre.2 pre.3)

-- `put_list`: the words that are left, put into the memory as it stands, make what all make.
use Rattle.std.proofs.Common.{◌≡◌, ◌+◌, ◌*◌, drop, set, sym, ◌∙◌, arith}
use Rattle.harness.specs.Text.{hex_number}
use Rattle.harness.specs.Words.{words_in_list}
use Rattle.harness.proofs.FieldLaws.{none-put, one-put, all-put}
use Rattle.harness.proofs.words.put_list.Goals as goal

pub loop-i-init : goal.loop-i-init
loop-i-init c =
    let a = c.args in
    none-put a.address (words_in_list a.list.now) a.list.now a.memory.now

pub loop-i-preserved : goal.loop-i-preserved
loop-i-preserved c =
    let a = c.args in
    let k = c.loop-i in
    let word = hex_number 4 (drop (k.i * 5) a.list.now) in
    let e : c.put_at.new.memory ≡ set k.memory (a.address + k.i) word = cc in
    rw e (one-put a.address k.i (words_in_list a.list.now) a.list.now k.memory (omega arith) ∙ k.invariant)

pub returns : goal.returns
returns c =
    let a = c.args in
    let k = c.loop-i in
    sym (all-put a.address k.i (words_in_list a.list.now) a.list.now k.memory (omega arith)) ∙ k.invariant

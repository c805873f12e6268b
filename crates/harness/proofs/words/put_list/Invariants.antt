use Rattle.std.proofs.Common.{◌≡◌, ◌+◌, ◌-◌, ◌*◌, drop}
use Rattle.harness.specs.Words.{words_in_list, with_list, with_list_at}
use Rattle.harness.proofs.words.put_list.Given as goal

abbrev pub invariant-loop-i : goal.invariant-loop-i
invariant-loop-i l =
    with_list (words_in_list l.list - l.i) (l.address + l.i) (drop (l.i * 5) l.list) l.memory ≡ with_list_at l.address l.list l.initial.memory

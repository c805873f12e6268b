-- `cp1610_reach`: a short buffer and a map that is none are refused; else by what building the set answered.
use borrow.Author.Tests.{lt-ltb, le-ltb}
use Rattle.cp1610.specs.MapWords.{on_map}
use Rattle.cp1610.specs.ReachCall.{reach_words, reach_call}
use Rattle.cp1610.proofs.ReachLaws.{reach-short, reach-refuses, reach-builds}
use Rattle.cp1610.proofs.cp1610_reach.Goals as goal

pub returns-then-out-lt-REACH_LENGTH : goal.returns-then-out-lt-REACH_LENGTH
unfolding reach_call
returns-then-out-lt-REACH_LENGTH c =
    let a = c.args in
    let ends = reach-short a.map.now (on_map a.map.now a.mem.now) a.entries.now a.clear.now a.set.now a.out.now (rw (lt-ltb _ _ c.if-out-lt-REACH_LENGTH.true)) in
    record { out_after = ends.0; holds_set = ends.1 }

pub returns-in_default : goal.returns-in_default
unfolding reach_call
returns-in_default c =
    let a = c.args in
    let ends =
    reach-short a.map.now (on_map a.map.now a.mem.now) a.entries.now a.clear.now a.set.now a.out.now
    (rw (le-ltb _ _ c.if-out-lt-REACH_LENGTH.false, c.in_default.ensures))
    in
    record { out_after = ends.0; holds_set = ends.1 }

pub returns-in-Err : goal.returns-in-Err
unfolding reach_call
returns-in-Err c =
    let a = c.args in
    let map = c.in-Some.ensures in
    let ends =
    reach-refuses a.map.now a.mem.now a.entries.now a.clear.now a.set.now a.out.now _ _ {c = c.reach.new.clear} {s = c.reach.new.set} map.1
    (rw (le-ltb _ _ c.if-out-lt-REACH_LENGTH.false, map.0))
    c.reach.ensures c.in-Err.is c.refused.ensures
    in
    record { out_after = ends.0; holds_set = ends.1 }

pub returns-in-Ok : goal.returns-in-Ok
unfolding reach_call reach_words
returns-in-Ok c =
    let a = c.args in
    let map = c.in-Some.ensures in
    let ends =
    reach-builds a.map.now a.mem.now a.entries.now a.clear.now a.set.now a.out.now _ _ {c = c.reach.new.clear} {s = c.reach.new.set} map.1
    (rw (le-ltb _ _ c.if-out-lt-REACH_LENGTH.false, map.0))
    c.reach.ensures c.in-Ok.is c.success.ensures (rw (c.put.ensures, c.summary_words.ensures))
    in
    record { out_after = ends.0; holds_set = ends.1 }

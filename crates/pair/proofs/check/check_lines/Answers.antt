-- The first pass, by the record `Checking`: each turn is a law of PassLaws.
use Rattle.std.proofs.Common.{Ok, max, ap, ◌∙◌, arith}
use Rattle.std.proofs.lemmas.Bool.Decides.{nat_tests}
use Rattle.std.proofs.lemmas.Result.{err_from_is_err_and}
use Rattle.word.proofs.SetsLaws.{rest}
use Rattle.pair.specs.Format.{line_bytes}
use Rattle.pair.proofs.PassLaws.{line_at, checking-blank, checking-line, checking-malformed, checking-end}
use Rattle.pair.proofs.check.check_lines.Goals as goal

pub returns-in_err-read_front : goal.returns-in_err-read_front
returns-in_err-read_front c =
    let p = err_from_is_err_and c.from_residual.result c.from_residual.ensures.1 in
    rw (p.1, p.2) (checking-malformed c.loop-rest.invariant (grind (arith, nat_tests)) c.in_err-read_front.ensures)

pub loop-rest-preserved-in-None : goal.loop-rest-preserved-in-None
loop-rest-preserved-in-None c =
    rw (rest c.loop-rest.rest.now 1)
    (checking-blank c.loop-rest.invariant (grind (arith, nat_tests)) c.in_ok-read_front.ensures (ap Ok c.in-None.is))

pub target_end-requires : goal.target_end-requires
target_end-requires c = (line_at c.loop-rest.rest.now c.in_ok-read_front.ensures (ap Ok c.in-Some.is)).ordered

pub slice_bounds-rest-count-in-Some : goal.slice_bounds-rest-count-in-Some
slice_bounds-rest-count-in-Some c = (line_at c.loop-rest.rest.now c.in_ok-read_front.ensures (ap Ok c.in-Some.is)).complete

pub slice_bounds-rest-start-in-Some : goal.slice_bounds-rest-start-in-Some
slice_bounds-rest-start-in-Some c = (line_at c.loop-rest.rest.now c.in_ok-read_front.ensures (ap Ok c.in-Some.is)).complete

pub loop-rest-preserved : goal.loop-rest-preserved
loop-rest-preserved c =
    rw (rest c.loop-rest.rest.now line_bytes)
    (checking-line c.loop-rest.invariant (grind (arith, nat_tests)) c.in_ok-read_front.ensures (ap Ok c.in-Some.is)
    (c.max-words.ensures ∙ ap (max _) c.file_end.ensures) (c.max-end.ensures ∙ ap (max _) c.target_end.ensures))

pub returns : goal.returns
returns c = checking-end c.loop-rest.invariant (grind (arith, nat_tests))

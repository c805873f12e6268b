-- `read`: the loop's invariant is that what is left of template and text, read from the line so far, gives the line read from all.
use Rattle.std.proofs.Common.{sym, ◌∙◌, inl, inr}
use Rattle.listing.proofs.Reading.{literal, past-template, past-text}
use Rattle.listing.proofs.encode.read.Goals as goal

pub loop-symbol-preserved-then-symbol-ge97 : goal.loop-symbol-preserved-then-symbol-ge97
loop-symbol-preserved-then-symbol-ge97 c =
    let step = c.in-Some.ensures.steps in
    rw c.taken-line.ensures (rw (step.0, step.1) at c.loop-symbol.invariant)

pub loop-symbol-preserved : goal.loop-symbol-preserved
loop-symbol-preserved c =
    let step = c.in-Some.ensures.steps in
    rw (step.0, step.1, literal _ _ _ c.if-symbol-ge97.false) at c.loop-symbol.invariant

pub returns : goal.returns
returns c =
    let v = c.loop-symbol in
    elim c.in-None.ensures.steps [
      | inl w ↦ sym (past-template v.symbol-iterator.a.rest.now v.symbol-iterator.b.rest.now v.line w.1.0) ∙ v.invariant
      | inr w ↦ sym (past-text v.symbol-iterator.a.rest.now v.symbol-iterator.b.rest.now v.line w.1.0) ∙ v.invariant
    ]

-- The loader goes document 01's way: each return is one of its tests.
use Rattle.std.proofs.Common.{sym, ◌∙◌}
use Rattle.std.proofs.lemmas.Result.{err_from_is_err_and}
use Rattle.image.specs.Format.{record_limit}
use Rattle.image.specs.Read.{head_of}
use Rattle.image.proofs.ReadLaws.{head-shown}
use Rattle.image.proofs.LoadLaws.{load-long, load-head, load_here, load-other}
use Rattle.image.proofs.load.Goals as goal

pub returns-then-is_too_long : goal.returns-then-is_too_long
returns-then-is_too_long c = sym (load-long head_of record_limit _ _ _ (sym c.is_too_long.ensures ∙ c.if-is_too_long.true))

pub returns-in_err-named : goal.returns-in_err-named
returns-in_err-named c =
    let p = err_from_is_err_and c.from_residual.result c.from_residual.ensures.1 in
    rw (p.1, p.2) (sym (load-head head_of record_limit _ _ _ (sym c.is_too_long.ensures ∙ c.if-is_too_long.false) (sym c.in_err-named.ensures)))

pub slice_bounds-load_body-count : goal.slice_bounds-load_body-count
slice_bounds-load_body-count c = (head-shown _ _ (sym c.in_ok-named.ensures)).complete

pub slice_bounds-load_body-start : goal.slice_bounds-load_body-start
slice_bounds-load_body-start c = (head-shown _ _ (sym c.in_ok-named.ensures)).complete

pub returns-then-is_for : goal.returns-then-is_for
returns-then-is_for c = load_here _ _ _ (sym c.is_too_long.ensures ∙ c.if-is_too_long.false) (sym c.in_ok-named.ensures) (sym c.is_for.ensures ∙ c.if-is_for.true) c.load_body.ensures

pub returns-else-is_for : goal.returns-else-is_for
returns-else-is_for c = load-other _ _ _ (sym c.is_too_long.ensures ∙ c.if-is_too_long.false) (sym c.in_ok-named.ensures) (sym c.is_for.ensures ∙ c.if-is_for.false)

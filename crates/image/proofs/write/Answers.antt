-- What the region's admission answers decides; a region that is let in lies within the memory.
use mathlib.Core.Path.{sym, ◌∙◌}
use native.Mathlib.Omega.{arith}
use Rattle.std.proofs.lemmas.Result.{err_from_is_err_and}
use Rattle.memory.proofs.BusLaws.{unless-in, unless-out}
use Rattle.records.proofs.LoadLaws.{admitted-region}
use Rattle.image.specs.Write.{refuse_write, write_with}
use Rattle.image.proofs.write.Goals as goal

pub returns-in_err-admit_region : goal.returns-in_err-admit_region
unfolding write_with
returns-in_err-admit_region c =
    let p = err_from_is_err_and c.from_residual.result c.from_residual.ensures.1 in
    rw (p.1, p.2) (sym (unless-out (refuse_write c.args.room.now) _ (sym c.in_err-admit_region.ensures)))

pub slice_bounds-put_image-count : goal.slice_bounds-put_image-count
slice_bounds-put_image-count c = omega (arith, admitted-region _ _ _ (sym c.in_ok-admit_region.ensures))

pub slice_bounds-put_image-start : goal.slice_bounds-put_image-start
slice_bounds-put_image-start c = omega (arith, admitted-region _ _ _ (sym c.in_ok-admit_region.ensures))

pub slice_bounds-put_image-end : goal.slice_bounds-put_image-end
slice_bounds-put_image-end c = omega (arith, admitted-region _ _ _ (sym c.in_ok-admit_region.ensures))

pub put_image-requires : goal.put_image-requires
put_image-requires c = omega (arith, admitted-region _ _ _ (sym c.in_ok-admit_region.ensures))

pub returns : goal.returns
unfolding write_with
returns c = c.put_image.ensures ∙ sym (unless-in (refuse_write c.args.room.now) _ (sym c.in_ok-admit_region.ensures))

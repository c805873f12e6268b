-- `map_words::read_map`: the first i ranges are in the array, and the kind of each is one.
use Prim.Native.Nat.{◌/◌}
use mathlib.Core.Path.{◌≡◌, refl}
use native.Mathlib.Numerals.{add-one}
use native.Mathlib.Omega.{arith}
use lib.ListN.{length}
use borrow.Author.Tests.{ne_eqb, eq-eqb}
use Rattle.memory.specs.Map.{listed_in}
use Rattle.cp1610.specs.MapWords.{ranges_to, kinds_to, board_of, is_map}
use Rattle.cp1610.proofs.MapLaws.{fill, is-none, kind-some}
use Rattle.cp1610.proofs.map_words.read_map.Goals as goal

pub returns-then-map-ne0 : goal.returns-then-map-ne0
unfolding is_map
returns-then-map-ne0 c = rw (ne_eqb _ _ c.if-map-ne0.true)

pub loop-i-init : goal.loop-i-init
unfolding kinds_to ranges_to
loop-i-init c = (refl, refl)

pub returns-in_err-ranges : goal.returns-in_err-ranges
unfolding is_map
returns-in_err-ranges c =
    rw c.from_residual.ensures (is-none _ _ _ _ (omega (arith, c.listed-i-end.ensures.0)) c.in_err-ranges.ensures)

pub loop-i-preserved : goal.loop-i-preserved
loop-i-preserved c =
    let k = c.loop-i.invariant in
    let map = c.args.map.now in
    (rw (add-one, k.0, c.in_ok-ranges.ensures.1) (fill c.loop-i.i map (omega arith)), rw add-one (kind-some _ map k.1 c.in_ok-ranges.ensures.0))

pub returns : goal.returns
unfolding board_of is_map
returns c =
    let k = c.loop-i.invariant in
    let all : c.loop-i.i ≡ listed_in (length c.args.map.now / 3) = omega (arith, c.listed-i-end.ensures.0) in
    (rw (eq-eqb _ _ c.if-map-ne0.false, ← all, k.1), rw (k.0, all))

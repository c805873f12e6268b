-- `map::find`: of the 16 entries just the listed ones are looked at.
use Rattle.std.proofs.Common.{rules, arith, ℕ, ◌≡◌, Bool, true, false, cond, leb, List, length, take, refl, sym, ◌∙◌}
use Rattle.std.proofs.Math.Seq.{take_all}
use Rattle.std.proofs.lemmas.Bool.{leb-false}
use Rattle.memory.specs.Map.{listed_in}
use Rattle.memory.proofs.map.find.Goals as goal

listed-takes : {A : Type 0} (n : ℕ) (l : List A) → length l ≡ 16 → take (listed_in n) l ≡ take n l
unfolding listed_in
listed-takes n l h = go (leb n 16) refl
  where
    go : (t : Bool) → leb n 16 ≡ t → take (cond t n 16) l ≡ take n l
    go true e = refl
    go false e = take_all 16 l (omega arith) ∙ sym (take_all n l (omega (arith, leb-false n 16 e)))

pub loop-range-init : goal.loop-range-init
loop-range-init c =
    let b = c.args.board in
    rw (c.listed.ensures.0, listed-takes b.count b.ranges (search rules))

-- Laws of ranges with commas between them, of which i were passed and the rest is left.
use Rattle.std.proofs.Common.{◌≡◌, ℕ, suc, ◌+◌, ◌-◌, ◌<◌, ◌≤◌, List, ◌++◌, length, take, set, append_assoc, append-nil, add-one, arith, take_all, take-suc-set}
use Prim.Native.Char.{code}
use Rattle.memory.specs.declared.map.Range.{Range}
use Rattle.harness.specs.Text.{part_before, part_behind}
use Rattle.harness.specs.Maps.{range_written, ranges_written}

module _ (n i : ℕ) (rest : List ℕ) (ranges : List Range) where
  -- one range more
  pub range-put :
      i < n →
      i < length ranges →
      take (i + 1) (set ranges i (range_written (part_before (code ",") rest))) ++ ranges_written (n - (i + 1)) (part_behind (code ",") rest)
      ≡ take i ranges ++ ranges_written (n - i) rest
  unfolding ranges_written
  range-put h k =
      let e : n - i ≡ suc (n - suc i) = omega arith in
      rw (add-one, e, take-suc-set ranges i _ k, append_assoc)

  -- none is left to look at
  pub ranges-whole : n ≤ i → length ranges ≤ i → ranges ≡ take i ranges ++ ranges_written (n - i) rest
  unfolding ranges_written
  ranges-whole h k =
      let e : n - i ≡ 0 = omega arith in
      rw (e, take_all i ranges k, append-nil)

use mathlib.Core.Bool.{true}
use mathlib.Core.Path.{◌≡◌}
use Rattle.cp1610.specs.MapWords.{kinds_to}
use Rattle.cp1610.proofs.MapLaws.{filled}
use Rattle.cp1610.proofs.map_words.read_map.Given as goal

abbrev pub invariant-loop-i : goal.invariant-loop-i
invariant-loop-i l = (l.ranges ≡ filled l.i l.map) × (kinds_to l.i l.map ≡ true)

-- The equation of the words that the walk reads.
use mathlib.Core.Path.{refl, ap}
use mathlib.Core.List.{List, [], ◌∷◌}
use Prim.Native.Nat.{ℕ}
use Rattle.decode.specs.Reads.{decoding_reads}
use Rattle.meter.specs.Walk.{turn_at, after_turn}
use Rattle.meter.specs.Reads.{reads_by, reads_on}
use Rattle.meter.specs.Laws.{ReadsEquation}
use Rattle.meter.proofs.WalkLaws.{after_same, uncounted}

pub reads-equation : ReadsEquation
unfolding reads_on reads_by
reads-equation read limit p =
    uncounted read limit (λ q rest. decoding_reads read q.address ∷ after_turn (λ a. []) rest (turn_at read limit q)) (λ n. reads_by n read limit) (λ n q. refl)
    (λ q f g h. ap (λ (t : List (List ℕ)). decoding_reads read q.address ∷ t) (after_same (λ a. []) f g (turn_at read limit q) h))
    p

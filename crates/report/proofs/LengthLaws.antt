-- How long the pieces of a line are.
use mathlib.Core.Path.{◌≡◌, refl}
use Prim.Native.Nat.{ℕ, ◌≤◌}
use mathlib.Core.List.{List, [], ◌∷◌, ◌++◌}
use lib.Dec.{ltb, lit≤}
use lib.ListN.{length, length-append}
use Rattle.word.proofs.Choice.{cond_both}
use Rattle.text.specs.Text.{hex_of}
use Rattle.meter.specs.Answer.{Longest, no_wait, longest, Lowest, no_over, over_at}
use Rattle.report.specs.Text.{space, decimal_text, line_text}
use Rattle.report.specs.Regions.{wait_text, over_text}

pub hex_length : (w : ℕ) → length (hex_of w) ≡ 4
unfolding hex_of
hex_length w = refl

pub field_length : (w : ℕ) → length (hex_of w ++ (space ∷ [])) ≡ 5
unfolding hex_of
field_length w = refl

-- a number at the end of its line
pub numbered_length : (w : ℕ) → length (line_text (hex_of w)) ≡ 5
unfolding hex_of
numbered_length w = refl

pub decimal_length : (n : ℕ) → length (decimal_text n) ≤ 2
unfolding decimal_text
decimal_length n = cond_both (λ (digits : List ℕ). length digits ≤ 2) (ltb n 10) (lit≤ tt) (lit≤ tt)

pub wait_short : (l : Longest) → length (wait_text l) ≤ 17
wait_short no_wait = lit≤ tt
wait_short (longest cycles start) = simp (length-append, hex_length) (lit≤ tt)

pub over_short : (o : Lowest) → length (over_text o) ≤ 9
over_short no_over = lit≤ tt
over_short (over_at start) = simp hex_length (lit≤ tt)

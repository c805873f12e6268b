-- What a test shows that holds, or that holds where another does.
use mathlib.Core.Path.{◌≡◌, refl}
use mathlib.Core.Bool.{Bool, true, false}
use lib.Dec.{T}
use Rattle.text.proofs.Tests.{clash}

pub truth : (b : Bool) → T b → b ≡ true
truth true t = refl
truth false t = absurd t

-- a test where another holds
abbrev pub imp : Bool → Bool → Bool
imp true b = b
imp false b = true

pub imp-at : (a b : Bool) → T (imp a b) → a ≡ true → T b
imp-at true b t e = t
imp-at false b t e = clash e refl

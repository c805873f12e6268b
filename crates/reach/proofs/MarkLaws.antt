-- Marking a node: it is marked, all others are as they were, and the two buffers together have one more if it is new.
use Prim.Native.Nat.{ℕ, ◌+◌, ◌≤◌, ◌<◌}
use mathlib.Core.Path.{◌≡◌, refl, ap}
use mathlib.Core.Bool.{Bool, true, false}
use mathlib.Core.List.{List}
use mathlib.Core.Logic.{◌⊎◌, inl, inr, ⊎_elim}
use native.Mathlib.Omega.{arith}
use lib.ListN.{length}
use Rattle.bitset.specs.Bits.{contains, inserted, size_of, SetBuffer}
use Rattle.bitset.proofs.SetLaws.{inserted_same, inserted-known, inserted-kept, inserted-only, inserted-buffer, member-within}
use Rattle.bitset.proofs.CountLaws.{size-most, size-new, size-held}
use Rattle.reach.specs.declared.Node.{Node}
use Rattle.reach.specs.Ways.{node_at}
use Rattle.reach.specs.Inner.Explore.{marked, clear_with, set_with}

module _ (clear set : List ℕ) (a : ℕ) where
  self : (d : Bool) → length clear ≡ 1024 → length set ≡ 1024 → a < 65536 → marked (clear_with clear (node_at a d)) (set_with set (node_at a d)) (node_at a d) ≡ true
  self true l p h = inserted_same set a (omega arith)
  self false l p h = inserted_same clear a (omega arith)

  kept : (d : Bool) (b : ℕ) (e : Bool) → marked clear set (node_at b e) ≡ true → marked (clear_with clear (node_at a d)) (set_with set (node_at a d)) (node_at b e) ≡ true
  kept true b true h = inserted-kept set a b h
  kept true b false h = h
  kept false b true h = h
  kept false b false h = inserted-kept clear a b h

  only : (d : Bool) (b : ℕ) (e : Bool) → marked (clear_with clear (node_at a d)) (set_with set (node_at a d)) (node_at b e) ≡ true → (node_at b e ≡ node_at a d) ⊎ (marked clear set (node_at b e) ≡ true)
  only true b true h = ⊎_elim (λ q. inl (ap (λ (x : ℕ). node_at x true) q)) (λ q. inr q) (inserted-only set a b h)
  only true b false h = inr h
  only false b true h = inr h
  only false b false h = ⊎_elim (λ q. inl (ap (λ (x : ℕ). node_at x false) q)) (λ q. inr q) (inserted-only clear a b h)

  within : (d : Bool) → length clear ≡ 1024 → length set ≡ 1024 → marked clear set (node_at a d) ≡ true → a < 65536
  within true l p h = omega (arith, member-within set a h)
  within false l p h = omega (arith, member-within clear a h)

  clear-same : (d : Bool) → marked clear set (node_at a d) ≡ true → clear_with clear (node_at a d) ≡ clear
  clear-same true h = refl
  clear-same false h = inserted-known clear a h

  set_same : (d : Bool) → marked clear set (node_at a d) ≡ true → set_with set (node_at a d) ≡ set
  set_same true h = inserted-known set a h
  set_same false h = refl

  clear_buffer : (d : Bool) → SetBuffer clear → SetBuffer (clear_with clear (node_at a d))
  clear_buffer true k = k
  clear_buffer false k = inserted-buffer clear a k

  set_buffer : (d : Bool) → SetBuffer set → SetBuffer (set_with set (node_at a d))
  set_buffer true k = inserted-buffer set a k
  set_buffer false k = k

  more : (d : Bool) → length clear ≡ 1024 → length set ≡ 1024 → a < 65536 → marked clear set (node_at a d) ≡ false →
      size_of (clear_with clear (node_at a d)) + size_of (set_with set (node_at a d)) ≡ size_of clear + size_of set + 1
  more true l p h e = omega (arith, size-new set a p h e)
  more false l p h e = omega (arith, size-new clear a l h e)

  clear-held : (d : Bool) → length clear ≡ 1024 → a < 65536 → size_of clear ≤ size_of (clear_with clear (node_at a d))
  clear-held true l h = omega arith
  clear-held false l h = size-held clear a l h

  set-held : (d : Bool) → length set ≡ 1024 → a < 65536 → size_of set ≤ size_of (set_with set (node_at a d))
  set-held true l h = size-held set a l h
  set-held false l h = omega arith

-- the same over a node
module _ (clear set : List ℕ) (n : Node) where
  pub mark-kept : (x : Node) → marked clear set x ≡ true → marked (clear_with clear n) (set_with set n) x ≡ true
  mark-kept x h = kept clear set n.address n.double x.address x.double h

  pub mark-only : (x : Node) → marked (clear_with clear n) (set_with set n) x ≡ true → (x ≡ n) ⊎ (marked clear set x ≡ true)
  mark-only x h = only clear set n.address n.double x.address x.double h

  -- only addresses are marked
  pub marked-within : length clear ≡ 1024 → length set ≡ 1024 → marked clear set n ≡ true → n.address < 65536
  marked-within l p h = within clear set n.address n.double l p h

  pub mark-known-clear : marked clear set n ≡ true → clear_with clear n ≡ clear
  mark-known-clear h = clear-same clear set n.address n.double h

  pub mark-known-set : marked clear set n ≡ true → set_with set n ≡ set
  mark-known-set h = set_same clear set n.address n.double h

  pub mark-clear-buffer : SetBuffer clear → SetBuffer (clear_with clear n)
  mark-clear-buffer k = clear_buffer clear set n.address n.double k

  pub mark-set-buffer : SetBuffer set → SetBuffer (set_with set n)
  mark-set-buffer k = set_buffer clear set n.address n.double k

  module _ (l : length clear ≡ 1024) (p : length set ≡ 1024) (h : n.address < 65536) where
    pub mark-self : marked (clear_with clear n) (set_with set n) n ≡ true
    mark-self = self clear set n.address n.double l p h

    pub mark-more : marked clear set n ≡ false → size_of (clear_with clear n) + size_of (set_with set n) ≡ size_of clear + size_of set + 1
    mark-more e = more clear set n.address n.double l p h e

    pub mark-clear-held : size_of clear ≤ size_of (clear_with clear n)
    mark-clear-held = clear-held clear set n.address n.double l h

    pub mark-set-held : size_of set ≤ size_of (set_with set n)
    mark-set-held = set-held clear set n.address n.double p h

-- fewer than all are in a set that lacks an address
pub fewer : (clear : List ℕ) (a : ℕ) → length clear ≡ 1024 → a < 65536 → contains clear a ≡ false → size_of clear < 65536
fewer clear a l h e = omega (arith, size-new clear a l h e, size-most (inserted clear a))

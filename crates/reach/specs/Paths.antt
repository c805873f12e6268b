-- Document 02, [4]: paths "over unchanged memory". `next` gives the nodes that a node leads to.
use Rattle.std.specs.Prelude.{ℕ}
use mathlib.Core.List.{List, Memᴰ}
use Rattle.reach.specs.declared.Node.{Node}
use Rattle.reach.specs.Ways.{clear_at}

infix 50 ◌∈◌
-- x is one of the list's elements
abbrev pub ◌∈◌ {ℓ} : {A : Type ℓ} → A → List A → Type ℓ
◌∈◌ x l = Memᴰ x l

-- a path from a node: it ends there, or goes on from its end to a node that the end leads to
pub data PathTo (next : Node → List Node) (from : Node) : Node → Type 0 where
  here : PathTo next from from
  onward : {n m : Node} → PathTo next from n → m ∈ next n → PathTo next from m

-- a path leads to the node "from up to 16 entry points, D clear"
pub record Reached (next : Node → List Node) (entries : List ℕ) (n : Node) : Type 0 where
  pub entry : ℕ
  pub listed : entry ∈ entries
  pub path : PathTo next (clear_at entry) n

-- The exploration: what it marks, what waits on its stack, and which addresses it notes as writers of R7.
use Rattle.std.specs.Prelude.{ℕ, ◌+◌, ◌≤◌, ◌<◌, ◌≡◌, Bool, true, false, cond, not, List, [], ◌∷◌, ◌⊎◌, Option}
use lib.ListN.{length, get_or, set}
use Rattle.bitset.specs.Bits.{contains, inserted, size_of, SetBuffer}
use Rattle.decode.specs.declared.Instr.{Instr}
use Rattle.reach.specs.declared.Node.{Node}
use Rattle.reach.specs.declared.ways.Ways.{Ways}
use Rattle.reach.specs.declared.ways.Ways.TheVariants.{End, Writes, One, Two}
use Rattle.reach.specs.Ways.{node_at, clear_at, decoded_ways, successors, decoded_writes, writes_at}
use Rattle.reach.specs.Paths.{◌∈◌, PathTo}
use Rattle.reach.specs.Summary.{is_writer}

-- the nodes that the code's ways stand for
abbrev pub nodes_of : Ways → List Node
nodes_of End = []
nodes_of Writes = []
nodes_of (One n) = n ∷ []
nodes_of (Two n t) = n ∷ clear_at t ∷ []

-- .. and whether the row writes R7
abbrev pub is_write : Ways → Bool
is_write End = false
is_write Writes = true
is_write (One n) = false
is_write (Two n t) = false

-- they go on to these nodes
pub record GoesTo (l : List Node) (ways : Ways) : Type 0 where
  pub nodes : nodes_of ways ≡ l
  pub writes : is_write ways ≡ false

-- what they say of an instruction, once it is decoded
pub record WaysFrom (read : ℕ → ℕ) (n : Node) (x : Option Instr) (ways : Ways) : Type 0 where
  pub nodes : nodes_of ways ≡ decoded_ways read n x
  pub writes : is_write ways ≡ decoded_writes x

-- a node is in the buffer of its D
abbrev pub marked : List ℕ → List ℕ → Node → Bool
marked clear set n = cond n.double (contains set n.address) (contains clear n.address)

-- the buffers with a node more
abbrev pub clear_with : List ℕ → Node → List ℕ
clear_with clear n = cond n.double clear (inserted clear n.address)

abbrev pub set_with : List ℕ → Node → List ℕ
set_with set n = cond n.double (inserted set n.address) set

-- what marking a node does, and whether it was not marked before
pub record Marks (clear set clear' set' : List ℕ) (n : Node) (new : Bool) : Type 0 where
  pub fits : n.address < 65536
  pub told : new ≡ not (marked clear set n)
  pub clear_is : clear' ≡ clear_with clear n
  pub set_is : set' ≡ set_with set n

-- what marking an address with D clear does: a new one is put on the stack
pub record Pushes (clear clear' stack stack' : List ℕ) (depth depth' a : ℕ) : Type 0 where
  pub fits : a < 65536
  pub clear_is : clear' ≡ inserted clear a
  pub stack_is : stack' ≡ cond (contains clear a) stack (lib.ListN.set stack depth a)
  pub depth_is : depth' ≡ cond (contains clear a) depth (depth + 1)

-- a node waits on the stack
abbrev pub Waiting : List ℕ → ℕ → Node → Type 0
Waiting stack depth n = (i : ℕ) × (i < depth) × (n ≡ clear_at (get_or stack i 0))

-- a node is expanded: all that it leads to is marked, and its address is noted if the row there writes R7
pub record Expanded (read : ℕ → ℕ) (clear set writers : List ℕ) (n : Node) : Type 0 where
  pub followed : (m : Node) → m ∈ successors read n → marked clear set m ≡ true
  pub noted : writes_at read n ≡ true → contains writers n.address ≡ true

-- an address is noted only for a marked node
abbrev pub Noted : (ℕ → ℕ) → List ℕ → List ℕ → ℕ → Type 0
Noted read clear set a = (d : Bool) × (marked clear set (node_at a d) ≡ true) × (writes_at read (node_at a d) ≡ true)

-- every marked node is at work, waits on the stack, or is expanded
pub record Exploring (read : ℕ → ℕ) (Busy : Node → Type 0) (clear set writers stack : List ℕ) (depth : ℕ) : Type 0 where
  pub clear_buffer : SetBuffer clear
  pub set_buffer : SetBuffer set
  pub writers_long : length writers ≡ 1024
  pub stack_long : length stack ≡ 65536
  pub room : depth ≤ size_of clear
  pub stacked : (n : Node) → Waiting stack depth n → marked clear set n ≡ true
  pub closed : (n : Node) → marked clear set n ≡ true → Busy n ⊎ (Waiting stack depth n ⊎ Expanded read clear set writers n)
  pub sound : (a : ℕ) → contains writers a ≡ true → Noted read clear set a

-- no node is at work
abbrev pub Idle : Node → Type 0
Idle n = ⊥

-- the nodes marked by now, of those marked at first: none is lost, each has a path from one of them, and each node that was put on the stack was
-- marked
pub record Grown (next : Node → List Node) (clear₀ set₀ clear set : List ℕ) (depth₀ depth : ℕ) : Type 0 where
  pub kept : (n : Node) → marked clear₀ set₀ n ≡ true → marked clear set n ≡ true
  pub led : (n : Node) → marked clear set n ≡ true → (m : Node) × (marked clear₀ set₀ m ≡ true) × PathTo next m n
  pub paid : depth + (size_of clear₀ + size_of set₀) ≤ depth₀ + (size_of clear + size_of set)

-- a set of just the addresses that the summary counts as writers
abbrev pub HoldsWriters : (ℕ → ℕ) → List ℕ → List ℕ → List ℕ → Type 0
HoldsWriters read clear set writers = (a : ℕ) → contains writers a ≡ is_writer read clear set a

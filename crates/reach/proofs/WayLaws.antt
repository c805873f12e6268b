-- Where a node leads, by the code's steps: it decodes with a range at hand.
use Prim.Native.Nat.{ℕ}
use mathlib.Core.Path.{◌≡◌, ap, ◌∙◌}
use mathlib.Core.List.{List}
use Rattle.memory.specs.declared.map.Range.{Range}
use Rattle.memory.specs.declared.map.Board.{Board}
use Rattle.memory.specs.Bus.{bus_on, read_of}
use Rattle.memory.specs.Near.{in_front, no_range, near_of, Near}
use Rattle.memory.proofs.NearLaws.{near-laws}
use Rattle.decode.specs.declared.Instr.{Instr}
use Rattle.std.proofs.Common.{Option}
use Rattle.decode.specs.Fields.{opcode_of}
use Rattle.decode.specs.Decode.{instruction_of, specified, decode_at}
use Rattle.decode.proofs.DecodeLaws.{decodes-in-steps}
use Rattle.reach.specs.declared.Node.{Node}
use Rattle.reach.specs.declared.ways.Ways.{Ways}
use Rattle.reach.specs.Ways.{successors, decoded_writes, writes_at}
use Rattle.reach.specs.Inner.Explore.{WaysFrom}
use Rattle.reach.proofs.FollowLaws.{Turn}

-- a range at hand stays one
pub near_first : (b : Board) {near : Range} → near ≡ no_range → Near b near
near_first b e = rw e (near-laws.none b)

pub near_on : (b : Board) (near : Range) (a : ℕ) {near' : Range} → Near b near → near' ≡ near_of b near a → Near b near'
near_on b near a k e = rw e (near-laws.moves b near a k)

-- what the code decodes with a range at hand is what stands there
pub ways_on :
    (b : Board) (near : Range) (m : List ℕ) (n : Node) {near' : Range} {w : ℕ} {i : Instr} {x : Option Instr} {ways : Ways} → Near b near → near' ≡ near_of b near n.address →
    w ≡ read_of (bus_on (in_front near b) m) n.address → i ≡ instruction_of (opcode_of w) → x ≡ specified (read_of (bus_on (in_front near' b) m)) n.address i n.double →
    WaysFrom (read_of (bus_on (in_front near' b) m)) n x ways → Turn (read_of (bus_on b m)) n ways
unfolding successors writes_at
ways_on b near m n {near'} {w} {x = x} k e f g h q =
    let read : ℕ → ℕ = read_of (bus_on b m) in
    let s : read_of (bus_on (in_front near' b) m) ≡ read = near-laws.reads b near' m (near_on b near n.address k e) in
    let t : w ≡ read n.address = f ∙ ap (λ (r : ℕ → ℕ). r n.address) (near-laws.reads b near m k) in
    let d : x ≡ decode_at read n.address n.double = h ∙ rw (s, g, t) (decodes-in-steps.steps read n.address n.double) in
    record { nodes = q.nodes ∙ rw (s, d); writes = q.writes ∙ ap decoded_writes d }

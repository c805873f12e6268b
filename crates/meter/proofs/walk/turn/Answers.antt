-- `walk::turn` goes by document 01's rules in their order, each a law of the walk's turn.
use Prim.Native.Nat.{◌≤◌}
use mathlib.Core.Path.{◌≡◌, ap, sym, ◌∙◌}
use borrow.Author.Rules.{rules}
use Rattle.decode.proofs.RowLaws.{row-bounds}
use Rattle.meter.specs.Walk.{place_after, row_turn, decoded_turn}
use Rattle.meter.proofs.WalkLaws.{turn-row, row-over, row-halts, row-waits, row_goes}
use Rattle.meter.proofs.walk.turn.Goals as goal
use Rattle.meter.proofs.walk.turn.Goals.{After-row_of-row}

-- once the row is known, the turn is the row's
by_row : (c : After-row_of-row) → decoded_turn c.args.limit.cycles c.args.place c.args.decoded ≡ row_turn c.args.limit.cycles c.args.place c.row_of-row.result
by_row c = turn-row c.args.limit.cycles c.args.place c.in-Some.is c.row_of-row.ensures

-- and its cycles are few
few : (c : After-row_of-row) → c.row_of-row.result.cycles ≤ 12
few c = rw c.row_of-row.ensures (row-bounds.most c.in-Some.instr c.args.place.double)

pub returns-in_default : goal.returns-in_default
returns-in_default c = sym (ap (decoded_turn _ _) c.in_default.is)

pub overflow_cast-sum : goal.overflow_cast-sum
overflow_cast-sum c = let h = few (goal.at.overflow_cast-sum c).After-row_of-row in search rules

pub overflow_add-sum : goal.overflow_add-sum
overflow_add-sum c = let h = few (goal.at.overflow_add-sum c).After-row_of-row in search rules

pub returns-then-limit-sum : goal.returns-then-limit-sum
returns-then-limit-sum c = sym (by_row (goal.at.returns-then-limit-sum c).After-row_of-row ∙ row-over _ _ _ c.if-limit-sum.true)

pub returns-then-row : goal.returns-then-row
returns-then-row c = sym (by_row (goal.at.returns-then-row c).After-row_of-row ∙ row-halts _ _ _ c.if-limit-sum.false c.if-row.true)

pub returns-then-row-2 : goal.returns-then-row-2
returns-then-row-2 c =
    sym (by_row (goal.at.returns-then-row-2 c).After-row_of-row ∙ row-waits _ _ _ c.if-limit-sum.false c.if-row.false c.if-row-2.true)

pub returns : goal.returns
unfolding place_after
returns c =
    rw c.wrapping_add.ensures
    (sym (by_row (goal.at.returns c).After-row_of-row ∙ row_goes _ _ _ c.if-limit-sum.false c.if-row.false c.if-row-2.false))

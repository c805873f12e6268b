-- The second pass, by the record `Storing`: each turn is a law of StoreLaws.
use Rattle.std.proofs.Common.{◌/◌, ◌<◌, length, refl, arith}
use Rattle.std.proofs.lemmas.Bool.Decides.{nat_tests}
use Rattle.word.proofs.SetsLaws.{rest}
use Rattle.bigendian.specs.Numbers.{all_words}
use Rattle.bigendian.proofs.NumberLaws.{words-length}
use Rattle.pair.specs.Format.{line_bytes}
use Rattle.pair.specs.Read.{mapping_at}
use Rattle.pair.proofs.StoreLaws.{LineFits, storing-end, storing-blank, storing-line, between-length}
use Rattle.pair.proofs.store.store_lines.Goals as goal
use Rattle.pair.proofs.store.store_lines.Goals.{Else-rest-eq-LINE_FEED}

pub loop-rest-preserved-then-rest-eq-LINE_FEED : goal.loop-rest-preserved-then-rest-eq-LINE_FEED
loop-rest-preserved-then-rest-eq-LINE_FEED c =
    rw (rest c.loop-rest.rest.now 1) (storing-blank c.loop-rest.invariant (grind (arith, nat_tests)) c.if-rest-eq-LINE_FEED.true)

-- the line at the front, where it is not empty
line : (c : Else-rest-eq-LINE_FEED)
    → LineFits (all_words c.args.bin.now) c.args.lines.now c.args.mem.now c.loop-rest.rest.now c.loop-rest.mem (mapping_at c.loop-rest.rest.now)
line c = let some : 0 < length c.loop-rest.rest.now = grind (arith, nat_tests) in storing-line c.loop-rest.invariant some c.if-rest-eq-LINE_FEED.false refl

pub mapping_at-requires : goal.mapping_at-requires
mapping_at-requires c = (line (goal.at.mapping_at-requires c).Else-rest-eq-LINE_FEED).complete

pub store_mapping-requires : goal.store_mapping-requires
store_mapping-requires c =
    let f = line (goal.at.store_mapping-requires c).Else-rest-eq-LINE_FEED in
    let n = words-length (length c.args.bin.now / 2) c.args.bin.now in
    let mp = mapping_at c.loop-rest.rest.now in
    let t : mp.last < length c.args.bin.now / 2 = omega (arith, f.there) in
    rw c.mapping_at.ensures (f.ordered, t, omega (arith, f.reach, between-length c.args.bin.now mp.first mp.last f.ordered t))

pub slice_bounds-rest-count-else-rest-eq-LINE_FEED : goal.slice_bounds-rest-count-else-rest-eq-LINE_FEED
slice_bounds-rest-count-else-rest-eq-LINE_FEED c =
    (line (goal.at.slice_bounds-rest-count-else-rest-eq-LINE_FEED c).Else-rest-eq-LINE_FEED).complete

pub slice_bounds-rest-start-else-rest-eq-LINE_FEED : goal.slice_bounds-rest-start-else-rest-eq-LINE_FEED
slice_bounds-rest-start-else-rest-eq-LINE_FEED c =
    (line (goal.at.slice_bounds-rest-start-else-rest-eq-LINE_FEED c).Else-rest-eq-LINE_FEED).complete

pub loop-rest-preserved : goal.loop-rest-preserved
loop-rest-preserved c =
    rw (rest c.loop-rest.rest.now line_bytes)
    ((line (goal.at.loop-rest-preserved c).Else-rest-eq-LINE_FEED).next _ (rw c.mapping_at.ensures at c.store_mapping.ensures))

pub returns : goal.returns
returns c = storing-end c.loop-rest.invariant (grind (arith, nat_tests))

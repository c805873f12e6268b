-- Each return is one of the tests of what stands at the front.
use Rattle.std.proofs.Common.{◌≡◌, sym, ap, ◌∙◌}
use Rattle.pair.specs.Format.{mapping_line}
use Rattle.pair.specs.Read.{mapping_at, begins_with}
use Rattle.pair.proofs.FrontLaws.{front-blank, front-short, front-differs, front_above, front-line, starts-begins}
use Rattle.pair.proofs.line.read_front.Goals as goal
use Rattle.pair.proofs.line.read_front.Goals.{After-starts_with}

pub returns-then-lines-eq-LINE_FEED : goal.returns-then-lines-eq-LINE_FEED
returns-then-lines-eq-LINE_FEED c = front-blank c.args.lines.now c.requires c.if-lines-eq-LINE_FEED.true

pub returns-then-lines-lt-LINE_BYTES : goal.returns-then-lines-lt-LINE_BYTES
returns-then-lines-lt-LINE_BYTES c = front-short c.args.lines.now c.requires c.if-lines-eq-LINE_FEED.false c.if-lines-lt-LINE_BYTES.true

pub returns-then-mapping : goal.returns-then-mapping
returns-then-mapping c = front_above c.args.lines.now c.requires c.if-lines-eq-LINE_FEED.false (rw c.mapping_at-mapping.ensures at c.if-mapping.true)

-- the library's test is the definition's
tested : (c : After-starts_with) → begins_with c.args.lines.now (mapping_line (mapping_at c.args.lines.now)) ≡ c.starts_with.result
tested c =
    let l = c.args.lines.now in
    sym (c.starts_with.ensures.value ∙ starts-begins l c.line_of.result ∙ ap (begins_with l) (c.line_of.ensures ∙ ap mapping_line c.mapping_at-mapping.ensures))

pub returns-then-starts_with : goal.returns-then-starts_with
returns-then-starts_with c =
    rw c.mapping_at-mapping.ensures
    (front-line c.args.lines.now c.requires c.if-lines-eq-LINE_FEED.false (rw c.mapping_at-mapping.ensures at c.if-mapping.false)
    (tested (goal.at.returns-then-starts_with c).After-starts_with ∙ c.if-starts_with.true))

pub returns-else-starts_with : goal.returns-else-starts_with
returns-else-starts_with c =
    front-differs c.args.lines.now c.requires c.if-lines-eq-LINE_FEED.false (rw c.mapping_at-mapping.ensures at c.if-mapping.false)
    (tested (goal.at.returns-else-starts_with c).After-starts_with ∙ c.if-starts_with.false)

-- What the first pass answers decides; the second is made only where the sum agrees.
use Rattle.std.proofs.Common.{length, sym, ◌∙◌}
use Rattle.image.specs.Format.{record_limit}
use Rattle.image.specs.Read.{body_of}
use Rattle.image.proofs.LoadLaws.{whole-known, whole-accepted, whole-refused}
use Rattle.image.proofs.load_body.Goals as goal

pub store_records-requires : goal.store_records-requires
store_records-requires c = whole-known (body_of record_limit (length c.args.mem.now) c.args.body.now) c.in_ok-checked.ensures

pub returns-then-sum_agrees : goal.returns-then-sum_agrees
returns-then-sum_agrees c =
    let a = c.args in
    whole-accepted a.mem.now a.head (body_of record_limit (length a.mem.now) a.body.now) c.in_ok-checked.ensures
    (sym c.sum_agrees.ensures ∙ c.if-sum_agrees.true)
    c.store_records.ensures

pub returns-else-sum_agrees : goal.returns-else-sum_agrees
returns-else-sum_agrees c =
    let a = c.args in
    whole-refused a.mem.now a.head (body_of record_limit (length a.mem.now) a.body.now) c.in_ok-checked.ensures
    (sym c.sum_agrees.ensures ∙ c.if-sum_agrees.false)

-- `rows::row_at`: the columns of the code's table are those of the definition's.
use lib.ListN.{get_or-map}
use Rattle.listing.specs.declared.rows.TableRow.{TableRow}
use Rattle.listing.specs.Inner.Rows.{rows}
use Rattle.listing.proofs.Table.{templates-at, bases-at, base-low}
use Rattle.listing.proofs.rows.row_at.Goals as goal

pub returns-clause-template : goal.returns-clause-template
unfolding rows
returns-clause-template c = rw (← get_or-map (λ (x : TableRow). x.template.now)) (templates-at c.args.row)

pub returns-clause-base : goal.returns-clause-base
unfolding rows
returns-clause-base c = rw (← get_or-map (λ (x : TableRow). x.base)) (bases-at c.args.row)

pub returns-clause-low : goal.returns-clause-low
unfolding rows
returns-clause-low c = rw (← get_or-map (λ (x : TableRow). x.base), bases-at c.args.row) (base-low c.args.row c.requires)

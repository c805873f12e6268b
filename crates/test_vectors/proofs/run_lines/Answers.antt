-- `run_lines`: the number of a line fits, since no text has more rows than bytes.
use Rattle.std.proofs.Common.{◌≡◌, inl, length, ap, arith}
use Rattle.std.specs.Iterator.Adapters.{enumerate_count}
use Rattle.harness.specs.Text.{rows_of, rows_left}
use Rattle.harness.proofs.RowLaws.{rows-few}
use Rattle.test_vectors.proofs.run_lines.Goals as goal

pub loop-lines-init-derived : goal.loop-lines-init-derived
loop-lines-init-derived g c =
    let few = rows-few c.args.text.now in
    let none : enumerate_count c.into_iter-lines-iterator.result ≡ 0 = cc in
    let all : length (rows_left c.into_iter-lines-iterator.result.iter) ≡ length (rows_of c.args.text.now) = ap length cc in
    ((tt, tt, inl (omega (arith, few, none, all))), tt)

use Rattle.std.proofs.Common.{◌∙◌, [], arith, sym}
use Rattle.std.specs.Prelude.{slice_index_or}
use Rattle.std.proofs.lemmas.List.{length-set}
use Rattle.std.proofs.lemmas.Result.{err_from_is_err_and}
use Rattle.beet_five_load.proofs.SeedRows.{passed-more, reading_of, row-refused, rows-passed}
use Rattle.beet_five_load.proofs.server_file.read_seeds.Goals as goal

pub returns-in_err-seeds : goal.returns-in_err-seeds
returns-in_err-seeds c =
    let p = err_from_is_err_and c.from_residual.result c.from_residual.ensures.1 in
    rw (p.1, p.2)
    (row-refused c.args.rows.now (sym c.have_bundle.ensures ∙ c.if-have_bundle.false) (λ k. slice_index_or c.loop-i.seeds k [])
    c.loop-i.i _ c.loop-i-test.true c.loop-i.invariant.1 c.in_err-seeds.ensures)

pub loop-i-preserved : goal.loop-i-preserved
loop-i-preserved c =
    let many = c.loop-i.invariant.0 in (
      length-set _ _ _ ∙ many,
      passed-more (reading_of c.args.rows.now) _ _ _ (omega (arith, many, c.loop-i-test.true)) c.loop-i.invariant.1 c.in_ok-seeds.ensures,
    )

pub returns : goal.returns
returns c =
    rows-passed c.args.rows.now (sym c.have_bundle.ensures ∙ c.if-have_bundle.false) c.loop-i.seeds c.loop-i.invariant.0
    (λ k lt. c.loop-i.invariant.1 k (omega (arith, lt, c.loop-i-test.false)))

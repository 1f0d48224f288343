use Rattle.std.proofs.Common.{◌∙◌, arith, Err}
use Rattle.std.proofs.lemmas.Result.{err_from_is_err_and}
use Rattle.beet_errand.proofs.Putting.{cause_since, put_more, put_refused, said_last}
use Rattle.beet_errand.proofs.giving.give.Goals as goal

pub returns-in_err-put_file : goal.returns-in_err-put_file
returns-in_err-put_file g c =
    let p = err_from_is_err_and c.from_residual.result c.from_residual.ensures.1 in
    rw (p.1, p.2) (record {
      cause = cause_since _ _ _ (Err c.in_err-put_file.field-0.0) c.loop-file.invariant.taken c.in_err-put_file.ensures.cause;
      calls = put_refused c.args.files.now c.loop-file.file-index c.file-item.result c.args.text.now _ _ _ c.in_err-put_file.field-0.0
          c.loop-file-test.true c.file-item.is c.loop-file.invariant.given c.in_err-put_file.ensures.content;
    })

pub loop-file-preserved : goal.loop-file-preserved
loop-file-preserved g c = record {
  taken = c.in_ok-put_file.ensures.cause.count ∙ c.loop-file.invariant.taken;
  given = put_more c.args.files.now c.loop-file.file-index c.file-item.result c.args.text.now _ _ _
      c.loop-file-test.true c.file-item.is c.loop-file.invariant.given
      c.in_ok-put_file.ensures.content;
}

pub returns : goal.returns
returns g c = record {
  cause = cause_since _ _ _ _ c.loop-file.invariant.taken c.say.ensures.cause;
  calls = said_last c.args.files.now c.loop-file.file-index c.args.text.now _ _ _ _
      (omega arith) c.loop-file.invariant.given c.say.ensures.content;
}

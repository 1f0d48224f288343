use Rattle.beet_errand.proofs.running.end_run.Goals as goal

pub returns : goal.returns
returns g c = record {
  result = c.or_usage-result.result;
  is = c.or_usage-result.ensures;
  end = c.give_answer.result;
  goes = c.give_answer.ensures;
  code = c.code.ensures;
}

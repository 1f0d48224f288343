use Rattle.std.proofs.Common.{◌++◌, ◌||◌, ◌∙◌, ap}
use Rattle.beet_errand.specs.Errands.{Answer}
use Rattle.beet_lot_load.specs.Telling.{is_spent, name_line}
use Rattle.beet_job_session.proofs.LotSteps.{told-more}
use Rattle.beet_job_session.proofs.telling.ClearedLotsTakesLots.take.Goals as goal

pub returns-clause-taken : goal.returns-clause-taken
returns-clause-taken c = λ rows lots read taken next kept.
    let is = c.in_ok-reply.ensures.tells read kept in
    let before = c.args.self.now.told in
    let row = c.args.row.now in
    told-more rows lots row read before _ taken next (record {
      text = c.in_ok-added.ensures.text
          ∙ ap (λ n. before.text.items ++ name_line n ++ c.in_ok-reply.reply.text) c.as_str.ensures
          ∙ ap (λ (a : Answer). before.text.items ++ name_line row.name ++ a.text) is;
      spent = c.in_ok-added.ensures.spent ∙ ap (λ (a : Answer). before.spent || is_spent a.status) is;
    })

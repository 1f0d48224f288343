use Rattle.std.proofs.Common.{◌≡◌, ◌++◌, ◌||◌, ◌∙◌, ap, sym}
use Rattle.beet_errand.specs.Errands.{Answer}
use Rattle.beet_lot_load.specs.Telling.{is_spent, name_line}
use Rattle.beet_job_replay.proofs.telling.tell_lot.Goals as goal

pub returns : goal.returns
returns c = λ w answer at tells.
    let is : c.in_ok-reply.reply ≡ answer =
    c.in_ok-reply.ensures ∙ sym (tells c.standings_in-servers.result (c.standings_in-servers.ensures w at)) in
    let before = c.args.told.now in
    record {
      text = c.in_ok-added.ensures.text
          ∙ ap (λ n. before.text.items ++ name_line n ++ c.in_ok-reply.reply.text) c.as_str.ensures
          ∙ ap (λ (a : Answer). before.text.items ++ name_line c.args.row.now.name ++ a.text) is;
      spent = c.in_ok-added.ensures.spent ∙ ap (λ (a : Answer). before.spent || is_spent a.status) is;
    }

use Rattle.std.proofs.Common.{ap, ◌∙◌}
use Rattle.beet_five_server.specs.Answers.{Core}
use Rattle.beet_five_server.specs.Received.{numbers_from}
use Rattle.beet_five_server.proofs.PassedRounds.{passed-received}
use Rattle.beet_five_server.proofs.server.FiveCore.received.Goals as goal

pub returns-clause-passed : goal.returns-clause-passed
returns-clause-passed g c = λ o x f may lt.
    c.received.ensures ∙ ap (λ (v : Core g.row.S.Denot). numbers_from v.mail c.args.from c.args.round) c.self.view_is
    ∙ passed-received g.S.Script.batch_of o x _ _ f c.args.from c.args.round may lt

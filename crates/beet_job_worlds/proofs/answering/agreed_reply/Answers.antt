use Rattle.std.proofs.Common.{◌∙◌}
use Rattle.beet_view.specs.BookViews.{transcript_for}
use Rattle.beet_job_worlds.proofs.BookAnswers.{replies-agreed}
use Rattle.beet_job_worlds.proofs.answering.agreed_reply.Goals as goal

pub returns-clause-answer : goal.returns-clause-answer
returns-clause-answer g c =
    let first = c.args.first.book in
    let words = c.args.first.words in
    let one = c.in_ok-seen.ensures in
    let both = c.in_ok-seen-2.ensures in
    let seen = c.in_ok-seen-3.ensures in
    replies-agreed c.args.out.now first words c.args.mapped.now (transcript_for first words c.args.me) _ _ _ _ _
    (seen.reply ∙ both.reply ∙ one.reply) (seen.first ∙ both.first ∙ one.transcript)
    (seen.second ∙ both.second ∙ c.requires.same) seen.words
    c.in_ok-telling_worlds.ensures

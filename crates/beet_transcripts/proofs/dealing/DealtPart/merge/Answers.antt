use Rattle.std.proofs.lemmas.Result.{on_ok_weaker}
use Rattle.beet_transcripts.proofs.DealtPoints.{dealt-joined}
use Rattle.beet_transcripts.proofs.dealing.DealtPart.merge.Goals as goal

pub returns : goal.returns
returns c = λ grid whom few rest a b.
    on_ok_weaker c.append.result (λ all. dealt-joined grid whom few rest _ _ _ _ _ _ a b c.merge.ensures.sums all) c.append.ensures

use Rattle.std.proofs.Common.{rules}
use Rattle.beet_words.specs.Fields.{counted_at}
use Rattle.beet_view.specs.Transcripts.{round_at}
use Rattle.beet_view.proofs.reading.read_rounds.Goals as goal

pub returns-clause-rounds : goal.returns-clause-rounds
unfolding counted_at
returns-clause-rounds c =
    let rounds = c.read_many.ensures.items (round_at c.args.bytes.now) (λ from read within given. search rules) in
    search rules

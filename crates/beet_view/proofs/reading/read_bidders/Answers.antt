use Rattle.std.proofs.Common.{rules}
use Rattle.beet_words.specs.Fields.{counted_at}
use Rattle.beet_view.specs.Transcripts.{seen_at}
use Rattle.beet_view.proofs.reading.read_bidders.Goals as goal

pub returns-clause-bidders : goal.returns-clause-bidders
unfolding counted_at
returns-clause-bidders c =
    let bidders = c.read_many.ensures.items (seen_at c.args.bytes.now c.args.server c.args.grid.now.prices)
    (λ from read within given. search rules) in
    search rules

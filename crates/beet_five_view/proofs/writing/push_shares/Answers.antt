use Rattle.std.proofs.Common.{◌++◌, ap, ◌∙◌}
use Rattle.std.proofs.lemmas.Result.{on_ok_weaker}
use Rattle.beet_words.specs.Words.{accepted}
use Rattle.beet_book.specs.Farmers.{BidderWithWords}
use Rattle.beet_book.proofs.Quantities.{quantities-many}
use Rattle.beet_view.specs.Transcripts.{numbers_bytes}
use Rattle.beet_five_server.specs.Parts.{hidden}
use Rattle.beet_five_view.proofs.More.{hidden-shares}
use Rattle.beet_five_view.proofs.writing.push_shares.Goals as goal

pub returns : goal.returns
returns c =
    let at = c.args.at.now in
    let farmer : BidderWithWords = record { bidder = at.bidder.now; words = at.words.now } in
    let values = c.deref.ensures.value ∙ c.in_ok-values.ensures in
    let numbers = c.deref-2.ensures.value ∙ c.in_ok-numbers.ensures.numbers ∙ ap accepted c.as_slice.ensures.value in
    let shares = (λ j. hidden (values j) (numbers j) at.server)
    ∙ hidden-shares farmer at.grid.now.prices at.server (quantities-many at.grid.now at.bidder.now.curve c.requires) in
    on_ok_weaker c.push_hidden.result (λ last. last ∙ ap (λ l. c.args.file.now.items ++ numbers_bytes l) shares) c.push_hidden.ensures

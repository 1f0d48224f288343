use Rattle.std.proofs.Common.{◌<◌, length, refl, ap, arith}
use Rattle.std.proofs.lemmas.Option.{slice_get_read}
use Rattle.beet_two_books.proofs.bidders.bidder_at.Goals as goal

pub returns-clause-bidder : goal.returns-clause-bidder
returns-clause-bidder c =
    let bidders = c.bidders-bidders.result.now in
    let lt : c.args.place < length bidders = omega (arith, ap length c.bidders-bidders.ensures.value, c.requires) in
    rw (← c.bidders-bidders.ensures.value)
    (slice_get_read bidders (length bidders) c.args.place c.index-bidders-place.result refl lt c.index-bidders-place.is)

use Rattle.std.proofs.Common.{length, sym, ap, subst, ◌∙◌, arith, IfOk}
use Rattle.beet_book.specs.Dealing.{quantities}
use Rattle.beet_book.proofs.Quantities.{quantities-many}
use Rattle.beet_mapped.specs.Dealers.{DealerMapped}
use Rattle.beet_auction_map.specs.MappedBidders.{party_of}
use Rattle.beet_auction_map.proofs.bidders.words_in_second.Goals as goal

pub move_dealer-requires-clause-count : goal.move_dealer-requires-clause-count
move_dealer-requires-clause-count c =
    let pair = c.args.pair.now in
    let was = ap length (c.as_slice.ensures.value ∙ c.in_ok-was.ensures.first)
    ∙ quantities-many pair.grid.now pair.first.now.curve c.requires.pair.of_grid in
    let becomes = ap length (c.as_slice-2.ensures.value ∙ c.in_ok-was.ensures.second)
    ∙ quantities-many pair.grid.now pair.second.now.curve c.requires.pair.of_grid' in
    becomes ∙ sym was

pub move_dealer-requires-clause-enough : goal.move_dealer-requires-clause-enough
move_dealer-requires-clause-enough c =
    let pair = c.args.pair.now in
    let was = ap length (c.as_slice.ensures.value ∙ c.in_ok-was.ensures.first)
    ∙ quantities-many pair.grid.now pair.first.now.curve c.requires.pair.of_grid in
    omega (arith, was, c.requires.enough)

pub returns-clause-mapped : goal.returns-clause-mapped
returns-clause-mapped c =
    let first = c.args.pair.now.first.now in
    let second = c.args.pair.now.second.now in
    let words = c.args.words.now in
    let was = c.as_slice.ensures.value ∙ c.in_ok-was.ensures.first in
    let becomes = c.as_slice-2.ensures.value ∙ c.in_ok-was.ensures.second in
    subst (λ known. IfOk c.move_dealer.result (λ mapped. DealerMapped c.args.me (record { party = party_of first; words = words })
    (record { party = record { known = known; quantities = quantities second.curve }; words = mapped }))) (sym c.requires.pair.mark)
    (subst (λ list. IfOk c.move_dealer.result (λ mapped. DealerMapped c.args.me (record { party = party_of first; words = words })
    (record { party = record { known = first.known; quantities = list }; words = mapped }))) becomes
    (subst (λ list. IfOk c.move_dealer.result (λ mapped. DealerMapped c.args.me
    (record { party = record { known = first.known; quantities = list }; words = words })
    (record { party = record { known = first.known; quantities = c.as_slice-2.result.now }; words = mapped }))) was
    c.move_dealer.ensures.mapped))

pub returns-clause-below : goal.returns-clause-below
returns-clause-below c = c.move_dealer.ensures.below

pub returns-clause-words : goal.returns-clause-words
returns-clause-words c = c.move_dealer.ensures.words

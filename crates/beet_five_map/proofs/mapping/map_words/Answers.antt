use Rattle.std.proofs.Common.{◌≡◌, ◌*◌, length, sym, ap, subst, ◌∙◌}
use Rattle.beet_bids.specs.declared.book.Bidder.{Bidder}
use Rattle.beet_plan.specs.FivePlan.{five_batch, five_over}
use Rattle.beet_map.proofs.Disagreeing.{as-many}
use Rattle.beet_five_dealing.specs.FiveWords.{AllAccepted}
use Rattle.beet_five_map.specs.FiveWorlds.{AreOnePair, BiddersMapped}
use Rattle.beet_book.specs.Farmers.{farmers_of}
use Rattle.beet_five_map.proofs.BidderFacts.{bidders-enough}
use Rattle.beet_five_map.proofs.Computed.{assembled, begins}
use Rattle.beet_five_map.proofs.mapping.map_words.Goals as goal

pub secrets-requires-2-clause-enough : goal.secrets-requires-2-clause-enough
secrets-requires-2-clause-enough c =
    let first = c.args.first.now in
    let second = c.args.second.now in
    let words = c.args.words.now in
    let mapped = c.in_ok-bidders in
    let dealt : c.as_slice-2.result.now ≡ words.bidders = c.as_slice-2.ensures.value ∙ (λ i. (c.words.view_is i).bidders) in
    let many : length second.bidders ≡ length first.bidders =
    as-many (λ (b : Bidder). b.known) first.bidders second.bidders c.requires.agree.marks in
    let count : length mapped.bidders.items ≡ length second.bidders =
    mapped.ensures.count ∙ ap length dealt ∙ c.requires.runs.count ∙ sym many in
    let all : AllAccepted (2 * (2 * first.grid.prices)) mapped.bidders.items =
    bidders-enough c.args.two.a c.args.two.b first.grid.prices first.bidders second.bidders words.bidders mapped.bidders.items
    c.requires.runs.count count
    (subst (λ l. BiddersMapped c.args.two.a c.args.two.b first.grid.prices (farmers_of first.bidders l)
    (farmers_of second.bidders mapped.bidders.items)) dealt mapped.ensures.mapped)
    (2 * (2 * first.grid.prices)) c.requires.runs.bidders in
    subst (λ l. AllAccepted (2 * (2 * second.grid.prices)) l) (sym c.as_slice-5.ensures.value)
    (subst (λ g. AllAccepted (2 * (2 * g.prices)) mapped.bidders.items) (sym c.requires.agree.grids) all)

pub returns : goal.returns
returns c =
    let first = c.args.first.now in
    let second = c.args.second.now in
    let words = c.args.words.now in
    let masks = c.in_ok-masks.masks.items in
    let bidders = c.in_ok-bidders.bidders.items in
    let coefficients = c.in_ok-coefficients.coefficients.items in
    let there : c.there.inside.masks.items ≡ masks = (λ i. (c.there.view_is i).masks) ∙ (λ i. (c.in_ok-there.ensures i).masks) in
    subst (λ l. AreOnePair c.args.two.a c.args.two.b first words second
    (record { masks = l; coefficients = coefficients; bidders = bidders })) (sym there)
    (assembled c.args.two.a c.args.two.b c.args.two.lowest c.args.two.order c.args.two.highest first second
    (record { first_book = c.grid.ensures.limits; second_book = c.grid-grid.ensures.limits; agree = c.requires.agree }) words
    c.requires.runs (five_batch c.script_over-script.result) c.in_ok-here.here c.in_ok-there.there c.as_slice.result.now
    c.as_slice-2.result.now c.as_slice-6.result.now masks bidders coefficients
    (λ i. five_batch ((c.script_over-script.ensures ∙ (λ j. five_over (c.grid.ensures.value j))) i))
    (c.as_slice.ensures.value ∙ (λ i. (c.words.view_is i).masks)) (c.as_slice-2.ensures.value ∙ (λ i. (c.words.view_is i).bidders))
    (c.as_slice-6.ensures.value ∙ (λ i. (c.words.view_is i).coefficients))
    (c.in_ok-here.ensures ∙ (λ i. begins first (record words {
      masks = (c.in_ok-copy_lists.ensures ∙ c.as_slice-4.ensures.value ∙ (λ j. (c.words.view_is j).masks)) i;
      bidders = (c.as_slice-3.ensures.value ∙ (λ j. (c.words.view_is j).bidders)) i;
    })))
    (c.in_ok-there.ensures ∙ (λ i. begins second (record words { masks = masks; bidders = c.as_slice-5.ensures.value i })))
    c.in_ok-masks.ensures c.in_ok-bidders.ensures.count c.in_ok-bidders.ensures.mapped c.in_ok-bidders.ensures.below
    c.in_ok-coefficients.ensures.five c.in_ok-coefficients.ensures.words c.in_ok-coefficients.ensures.mapped)

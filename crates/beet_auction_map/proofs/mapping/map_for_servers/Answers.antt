use Rattle.std.proofs.Common.{◌≡◌, ◌*◌, sym, subst, ◌∙◌}
use Rattle.std.proofs.lemmas.Result.{IfOk-weaker}
use Rattle.beet_words.specs.Bundles.{AreWords}
use Rattle.beet_bids.specs.declared.book.Bidder.{Bidder}
use Rattle.beet_plan.specs.Auction.{auction_batch, auction_over, most_coefficients, most_masks, most_rounds}
use Rattle.beet_trades.specs.Servers.{AreBelow, CanMap, ServersMapped, world_with}
use Rattle.beet_map.proofs.Disagreeing.{as-many}
use Rattle.beet_auction_map.specs.InputLines.{AreInputLines}
use Rattle.beet_two_books.specs.Losses.{losses_of}
use Rattle.beet_auction_map.proofs.WorldFacts.{Stands, can-map, worlds-mapped}
use Rattle.beet_auction_map.proofs.mapping.map_for_servers.Goals.{After-as_slice-2}
use Rattle.beet_auction_map.proofs.mapping.map_for_servers.Goals as goal

pub input_lines-requires-2 : goal.input_lines-requires-2
input_lines-requires-2 c =
    c.requires.bidders_mapped.count ∙ c.requires.enough.count
    ∙ sym (as-many (λ (b : Bidder). b.known) c.args.first.now.bidders c.args.second.now.bidders c.requires.agree.marks)

-- what both worlds hold
module _ (c : After-as_slice-2) where
  below : AreWords c.args.words.now
  below = record {
    masks = subst AreBelow (λ i. (c.words.view_is i).masks) c.look_at.ensures;
    coefficients = subst AreBelow (λ i. (c.words.view_is i).coefficients) c.look_at-2.ensures;
    bidders = c.requires.bidders_mapped.below;
  }

  stands : Stands c.args.me c.args.first.now c.args.second.now c.args.words.now c.args.bidders.now c.in_ok-here.here.items
      c.in_ok-there.there.items
  stands = record {
    agree = c.requires.agree;
    enough = c.requires.enough;
    is_book = c.grid.ensures.limits;
    is_book' = c.grid-grid.ensures.limits;
    are_words = below;
    lists = c.requires.bidders_mapped.count;
    bidders_mapped = c.requires.bidders_mapped.mapped;
    here = subst (λ l. AreInputLines c.args.first.now l c.in_ok-here.here.items)
        (c.as_slice.ensures.value ∙ (λ i. (c.words.view_is i).bidders)) c.in_ok-here.ensures;
    there = c.in_ok-there.ensures;
  }

  is-script : c.over-script.result ≡ auction_over c.args.first.now.grid
  is-script = c.over-script.ensures ∙ (λ i. auction_over (c.grid.ensures.value i))

  is-losses : c.as_slice-2.result.now ≡ losses_of c.args.first.now c.args.second.now
  is-losses = c.as_slice-2.ensures.value ∙ c.in_ok-losses.ensures

  asked : CanMap (auction_batch c.over-script.result) (most_rounds c.over-script.result) (2 * c.over-script.result.prices)
      (most_masks c.over-script.result) (most_coefficients c.over-script.result) c.args.me c.as_slice-2.result.now
      (world_with c.in_ok-here.here.items c.args.words.now.masks) c.in_ok-there.there.items c.args.words.now.coefficients
  asked =
      rw is-losses (can-map c.args.me c.args.first.now c.args.second.now c.args.words.now c.args.bidders.now c.in_ok-here.here.items
      c.in_ok-there.there.items stands c.over-script.result is-script)

pub map_servers-requires : goal.map_servers-requires
map_servers-requires c = asked ((goal.at.map_servers-requires c).After-as_slice-2)

pub returns : goal.returns
returns c =
    let at = (goal.at.returns c).After-as_slice-2 in
    let script = c.over-script.result in
    let here = world_with c.in_ok-here.here.items c.args.words.now.masks in
    IfOk-weaker c.map_servers.result _ _
    (λ both given.
    let m : ServersMapped (auction_batch script) (most_rounds script) c.args.me (losses_of c.args.first.now c.args.second.now) here
    c.in_ok-there.there.items c.args.words.now.coefficients both.0 both.1 =
    subst (λ losses. ServersMapped (auction_batch script) (most_rounds script) c.args.me losses here
    c.in_ok-there.there.items c.args.words.now.coefficients both.0 both.1) (is-losses at) given in
    worlds-mapped c.args.me c.args.first.now c.args.second.now c.args.words.now c.args.bidders.now c.in_ok-here.here.items
    c.in_ok-there.there.items (stands at) script (is-script at) both.0 both.1 m.turned m.together
    (record { masks = m.masks_below; coefficients = m.below; bidders = c.requires.bidders_mapped.below' }))
    c.map_servers.ensures

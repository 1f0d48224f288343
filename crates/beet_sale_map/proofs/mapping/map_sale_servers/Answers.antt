use Rattle.std.proofs.Common.{◌≡◌, ap, subst, ◌∙◌}
use Rattle.std.proofs.lemmas.Result.{IfOk-weaker}
use Rattle.beet_trades.specs.Servers.{AreBelow, CanMap, world_with}
use Rattle.beet_sale_plan.specs.Sale.{bidders_of, most_coefficients, most_masks, most_rounds, sale_batch}
use Rattle.beet_sale_map.specs.Bids.{sale_over}
use Rattle.beet_sale_map.specs.InputLines.{dealer_lines}
use Rattle.beet_sale_map.specs.Worlds.{losses_between}
use Rattle.beet_sale_map.proofs.ForServers.{can-map, mapped}
use Rattle.beet_sale_map.proofs.mapping.map_sale_servers.Goals.{After-as_slice-2}
use Rattle.beet_sale_map.proofs.mapping.map_sale_servers.Goals as goal

module _ (c : After-as_slice-2) where
  masks-below : AreBelow c.args.words.now.masks
  masks-below = subst AreBelow (λ i. (c.words.view_is i).masks) c.look_at.ensures

  numbers-below : AreBelow c.args.words.now.coefficients
  numbers-below = subst AreBelow (λ i. (c.words.view_is i).coefficients) c.look_at-2.ensures

  is-script : c.in-Some.script ≡ sale_over c.args.gates c.args.first.now
  is-script = c.in-Some.ensures.value

  is-losses : c.as_slice-2.result.now ≡ losses_between c.args.first.now c.args.second.now
  is-losses = c.as_slice-2.ensures.value ∙ c.in_ok-losses.ensures

  is-here : c.in_ok-here.here.items ≡ dealer_lines c.args.first.now c.args.words.now.bidders
  is-here = c.in_ok-here.ensures ∙ ap (dealer_lines c.args.first.now) (c.as_slice.ensures.value ∙ (λ i. (c.words.view_is i).bidders))

  is-there : c.in_ok-there.there.items ≡ dealer_lines c.args.second.now c.args.bidders.now
  is-there = c.in_ok-there.ensures

  asked : CanMap (sale_batch c.in-Some.script) (most_rounds c.in-Some.script) (bidders_of c.in-Some.script) (most_masks c.in-Some.script)
      (most_coefficients c.in-Some.script) c.args.me c.as_slice-2.result.now (world_with c.in_ok-here.here.items c.args.words.now.masks)
      c.in_ok-there.there.items c.args.words.now.coefficients
  asked =
      can-map c.args.me c.args.gates c.args.first.now c.args.second.now c.args.words.now c.args.bidders.now c.requires masks-below
      numbers-below c.in-Some.script is-script c.as_slice-2.result.now is-losses c.in_ok-here.here.items is-here c.in_ok-there.there.items
      is-there

pub map_servers-requires : goal.map_servers-requires
map_servers-requires c = asked ((goal.at.map_servers-requires c).After-as_slice-2)

pub returns : goal.returns
returns c =
    let at = (goal.at.returns c).After-as_slice-2 in
    IfOk-weaker c.map_servers.result _ _
    (λ both given. mapped c.args.me c.args.gates c.args.first.now c.args.second.now c.args.words.now c.args.bidders.now c.requires
    (masks-below at) (numbers-below at) c.in-Some.script (is-script at) c.as_slice-2.result.now (is-losses at)
    c.in_ok-here.here.items (is-here at) c.in_ok-there.there.items (is-there at) both.0 both.1 given)
    c.map_servers.ensures

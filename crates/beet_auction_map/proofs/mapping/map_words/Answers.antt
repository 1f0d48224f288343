use Rattle.std.proofs.Common.{◌≡◌, ◌≤◌, ◌*◌, length, sym, subst, ◌∙◌}
use Rattle.std.specs.Prelude.{All}
use Rattle.beet_words.specs.Words.{accepted}
use Rattle.beet_trades.proofs.AllWords.{words-hold}
use Rattle.beet_trades.proofs.Drawn.{all-drawn}
use Rattle.beet_auction_map.specs.Worlds.{WorldsMapped}
use Rattle.beet_auction_map.proofs.mapping.map_words.Goals as goal

pub map_bidders-requires-clause-enough : goal.map_bidders-requires-clause-enough
map_bidders-requires-clause-enough c =
    let wanted = 2 * c.args.first.now.grid.prices in
    let same : c.as_slice.result.now ≡ c.args.words.now.bidders = c.as_slice.ensures.value ∙ (λ i. (c.words.view_is i).bidders) in
    subst (λ l. All (λ list. wanted ≤ length (accepted list)) l) (sym same)
    (all-drawn wanted c.args.words.now.bidders c.requires.enough.bidders)

pub map_for_servers-servers-requires : goal.map_for_servers-servers-requires
map_for_servers-servers-requires c = record {
  enough = c.requires.enough;
  agree = c.requires.agree;
  bidders_mapped = rw (c.as_slice-2.ensures.value, sym (c.as_slice.ensures.value ∙ (λ i. (c.words.view_is i).bidders)))
      c.in_ok-bidders.ensures;
}

pub returns : goal.returns
returns c =
    words-hold (WorldsMapped c.args.me c.args.first.now c.args.words.now c.args.second.now) c.map_for_servers-servers.result
    c.as_slice-2.result.now c.in_ok-bidders.bidders.items c.all_words.result c.as_slice-2.ensures.value c.all_words.ensures
    c.map_for_servers-servers.ensures

use Rattle.std.proofs.Common.{◌∙◌, arith}
use Rattle.beet_view.specs.declared.quantities.Course.TheVariants.{Falling, Rising}
use Rattle.beet_view.specs.Transcripts.{start_of}
use Rattle.beet_view.proofs.ReadFacts.{quantities_at-are, falling_below, falling_pairs, rising_within, rising_pairs}
use Rattle.beet_view.proofs.reading.read_own.Goals as goal

pub unreachable-requires : goal.unreachable-requires
unreachable-requires c =
    let bytes = c.args.bytes.now in
    let prices = c.prices-prices.result in
    let buy = quantities_at-are bytes Falling prices (start_of Falling) c.args.at
    (c.in_ok-buy.buy.items, c.in_ok-buy.at) c.in_ok-buy.ensures.quantities in
    let sell = quantities_at-are bytes Rising prices (start_of Rising) c.in_ok-buy.at
    (c.in_ok-sell.sell.items, c.in_ok-sell.at) c.in_ok-sell.ensures.quantities in
    c.in_default.ensures (
      record { buy_length = buy.many ∙ c.prices-prices.ensures.value; sell_length = sell.many ∙ c.prices-prices.ensures.value },
      record {
        one_length = omega (arith, buy.many, sell.many);
        buy_limit = falling_below (start_of Falling) c.in_ok-buy.buy.items buy.in_order;
        sell_limit = rising_within (start_of Rising) c.in_ok-sell.sell.items sell.in_order;
        buy_never_rises = falling_pairs (start_of Falling) c.in_ok-buy.buy.items buy.in_order;
        sell_never_falls = rising_pairs (start_of Rising) c.in_ok-sell.sell.items sell.in_order;
      },
    )

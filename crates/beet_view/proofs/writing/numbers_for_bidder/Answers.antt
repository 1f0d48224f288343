use Rattle.std.proofs.Common.{arith, ap, ◌∙◌, length, option_map}
use Rattle.beet_view.proofs.ViewLength.{own-numbers, seen-long}
use Rattle.beet_view.proofs.writing.numbers_for_bidder.Goals as goal

pub returns-in-None : goal.returns-in-None
returns-in-None c = λ server seen is same.
    let prices = c.args.grid.now.prices in
    let words = same ∙ ap (option_map (λ list. list.now)) c.in-None.is in
    omega (
      arith,
      seen-long server c.args.grid.now seen.known seen.points seen.own is,
      ap (own-numbers prices) words,
      c.prices.ensures.value,
    )

pub returns-in-Some : goal.returns-in-Some
returns-in-Some c = λ server seen is same.
    let prices = c.args.grid.now.prices in
    let words = same ∙ ap (option_map (λ list. list.now)) c.in-Some.is in
    omega (
      arith,
      seen-long server c.args.grid.now seen.known seen.points seen.own is,
      ap (own-numbers prices) words,
      ap length c.as_slice.ensures.value,
      c.prices.ensures.value,
    )

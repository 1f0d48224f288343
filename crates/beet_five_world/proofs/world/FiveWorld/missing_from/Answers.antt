use Rattle.std.proofs.Common.{◌≡◌, ◌≤◌, ◌+◌, ◌∙◌, arith, refl}
use Rattle.beet_delivery.specs.Networks.{is_missing}
use Rattle.beet_five_server.specs.Network.{five}
use Rattle.beet_five_server.proofs.MailFacts.{by-server}
use Rattle.beet_five_world.proofs.MissingFacts.{none-own, sum-from}
use Rattle.beet_five_world.proofs.world.FiveWorld.missing_from.Goals as goal

pub returns-clause-missing : goal.returns-clause-missing
returns-clause-missing g c = λ script o rounds x f.
    (λ i. c.missing.ensures.missing script o rounds x f i + c.missing-2.ensures.missing script o rounds x f i
    + c.missing-3.ensures.missing script o rounds x f i + c.missing-4.ensures.missing script o rounds x f i
    + c.missing-5.ensures.missing script o rounds x f i)
    ∙ sum-from (is_missing five rounds x) c.args.round c.args.from c.requires.from
    (none-own rounds x c.args.round c.args.from c.requires.from)

pub returns-clause-few : goal.returns-clause-few
returns-clause-few g c =
    let few = c.missing.ensures.few in
    by-server (λ f. c.args.from ≡ f →
    c.missing.result + c.missing-2.result + c.missing-3.result + c.missing-4.result + c.missing-5.result ≤ 4)
    (λ e. omega (
      arith,
      c.missing.ensures.own e,
      c.missing-2.ensures.few,
      c.missing-3.ensures.few,
      c.missing-4.ensures.few,
      c.missing-5.ensures.few,
    ))
    (λ e. omega (arith, few, c.missing-2.ensures.own e, c.missing-3.ensures.few, c.missing-4.ensures.few, c.missing-5.ensures.few))
    (λ e. omega (arith, few, c.missing-2.ensures.few, c.missing-3.ensures.own e, c.missing-4.ensures.few, c.missing-5.ensures.few))
    (λ e. omega (arith, few, c.missing-2.ensures.few, c.missing-3.ensures.few, c.missing-4.ensures.own e, c.missing-5.ensures.few))
    (λ e. omega (arith, few, c.missing-2.ensures.few, c.missing-3.ensures.few, c.missing-4.ensures.few, c.missing-5.ensures.own e))
    c.args.from c.requires.from refl

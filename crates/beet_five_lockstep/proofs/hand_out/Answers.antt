use Rattle.std.proofs.Common.{◌≡◌, subst}
use Rattle.std.specs.Prelude.{IfSome}
use Rattle.beet_delivery.specs.Networks.{all_delivered}
use Rattle.beet_five_server.specs.Fits.{messages_from}
use Rattle.beet_five_server.specs.Network.{five}
use Rattle.beet_five_lockstep.proofs.OneRound.{hands-out, is-sent, it-hands}
use Rattle.beet_five_lockstep.proofs.hand_out.Goals as goal

pub returns : goal.returns
returns g c = λ o script t s server is a.
    let next = g.S.Script.batch_of in
    let old = c.args.core.now in
    let quiet = c.out.ensures.quiet.0 in (
      hands-out next o script t s server is old c.out.new.self a
          (it-hands next o script t s server is old c.out.result a quiet c.out.ensures.leaves)
          (c.out.ensures.fits o (all_delivered five t) a.fits),
      is-sent next o script t s server is old c.out.result (messages_from o s t) a quiet
          (subst (λ l. IfSome c.out.result (λ m. m ≡ l)) (λ i. messages_from o (a.name i) (a.round i))
          (c.out.ensures.messages o (all_delivered five t) a.fits)),
    )

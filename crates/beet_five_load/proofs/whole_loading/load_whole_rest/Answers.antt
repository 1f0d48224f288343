use Rattle.std.proofs.Common.{arith}
use Rattle.beet_errand.proofs.Frame.{given, handed}
use Rattle.beet_five_load.proofs.RestSteps.{bidders-stop, both-read, servers-stop}
use Rattle.beet_five_load.proofs.Running.{read-same}
use Rattle.beet_five_load.proofs.Serving.{serving-serves}
use Rattle.beet_five_load.proofs.whole_loading.load_whole_rest.Goals as goal

pub returns-in_err-servers : goal.returns-in_err-servers
returns-in_err-servers g c = servers-stop _ c.from_residual.ensures.1 c.in_err-servers.ensures

pub returns-in_err-servers-2 : goal.returns-in_err-servers-2
returns-in_err-servers-2 g c =
    bidders-stop c.setting.view_is c.in_ok-servers.ensures c.from_residual-in_err-servers-2.ensures.1
    (handed c.in_err-servers-2.ensures
    (rw (c.as_slice-entries.ensures.value, c.five_wants-wanted.ensures) at c.read_farmers-farmers.ensures))

pub whole_of-requires : goal.whole_of-requires
whole_of-requires g c =
    let serving = (rw (← c.setting.view_is) at c.in_ok-servers.ensures).gives.1 in
    let read = rw (c.as_slice-entries.ensures.value, c.five_wants-wanted.ensures) at c.read_farmers-farmers.ensures in
    let kept = (handed c.in_ok-servers-2.ensures.1 read).gives.1 in
    let many = kept.count in
    let within = rw (← c.setting.view_is) at c.requires.within in
    record {
      chains = c.setting.invariant.2;
      serves = rw c.in_ok-servers-2.ensures.0 (serving-serves _ _ _ _ c.setting.invariant.1 serving);
      few = omega (arith, many, c.setting.invariant.0);
      within = rw many within;
      each = kept.each;
    }

pub returns : goal.returns
returns g c =
    both-read c.setting.view_is c.in_ok-servers.ensures (handed c.in_ok-servers-2.ensures.1
    (rw (c.as_slice-entries.ensures.value, c.five_wants-wanted.ensures) at c.read_farmers-farmers.ensures))
    (λ servers farmers serving are.
    given (read-same _ _ _ _ _ _ _ c.whole_of.ensures c.in_ok-servers-2.ensures.0 serving.lists are.same))

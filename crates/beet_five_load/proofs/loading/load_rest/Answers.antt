use Rattle.std.proofs.Common.{◌∙◌, subst, sym}
use Rattle.beet_errand.proofs.Frame.{exits, given, handed, no_memory}
use Rattle.beet_five_load.specs.FiveLoading.{IsFiveKeptOf, read_with}
use Rattle.beet_five_load.specs.FiveServers.{ServerLists, lists_of}
use Rattle.beet_five_load.proofs.KeptOfFive.{kept-of-five}
use Rattle.beet_five_load.proofs.RestSteps.{bidders-stop, both-read, servers-stop}
use Rattle.beet_five_load.proofs.loading.load_rest.Goals as goal

pub returns-in_err-servers : goal.returns-in_err-servers
returns-in_err-servers g c = servers-stop _ c.from_residual.ensures.1 c.in_err-servers.ensures

pub returns-in_err-servers-2 : goal.returns-in_err-servers-2
returns-in_err-servers-2 g c =
    bidders-stop c.setting.view_is c.in_ok-servers.ensures c.from_residual-in_err-servers-2.ensures.1
    (handed c.in_err-servers-2.ensures (rw c.as_slice.ensures.value at c.deal_farmers-totals.ensures))

pub returns-in_err-servers-3 : goal.returns-in_err-servers-3
returns-in_err-servers-3 g c =
    both-read c.setting.view_is c.in_ok-servers.ensures
    (handed c.in_ok-servers-2.ensures.1 (rw c.as_slice.ensures.value at c.deal_farmers-totals.ensures))
    (λ servers farmers serving dealt. exits c.from_residual-in_err-servers-3.ensures.1 no_memory)

pub returns : goal.returns
returns g c =
    let grid = c.setting.inside.grid in
    let inputs = c.in_ok-servers-3.inputs.items in
    let same = c.servers.view_is ∙ c.in_ok-servers-3.ensures.0 ∙ c.in_ok-servers-2.ensures.0 in
    let given_inputs = rw c.in_ok-servers-3.ensures.1 at c.inputs.ensures in
    both-read c.setting.view_is c.in_ok-servers.ensures
    (handed c.in_ok-servers-2.ensures.1 (rw c.as_slice.ensures.value at c.deal_farmers-totals.ensures))
    (λ servers farmers serving dealt. given (subst (λ (l : ServerLists). IsFiveKeptOf
    (record { grid = grid; masks = l.masks; coefficients = l.coefficients; inputs = inputs })
    (read_with grid (lists_of servers) farmers)) (sym same)
    (kept-of-five grid _ _ _ servers _ farmers inputs c.setting.invariant.1 c.setting.invariant.0 serving dealt
    (given_inputs grid farmers dealt.dealt))))

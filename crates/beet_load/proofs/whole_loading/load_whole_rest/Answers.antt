use Rattle.std.proofs.Common.{◌∙◌, ap, arith, sym}
use Rattle.beet_errand.proofs.Frame.{bind, bound, exits, given, handed, stopped}
use Rattle.beet_load.specs.Loading.{rest_errand}
use Rattle.beet_load.proofs.whole_loading.load_whole_rest.Goals as goal

pub returns-in_err-words : goal.returns-in_err-words
unfolding rest_errand
returns-in_err-words g c = exits c.from_residual.ensures.1 (stopped (rw c.auction_wants-wanted.ensures at c.in_err-words.ensures.reads))

pub returns-in_err-words-2 : goal.returns-in_err-words-2
unfolding rest_errand
returns-in_err-words-2 g c =
    exits c.from_residual-in_err-words-2.ensures.1 (bind (rw c.auction_wants-wanted.ensures at c.in_ok-words.ensures.reads)
    (stopped (handed c.in_err-words-2.ensures (rw (c.lists_in.ensures, c.auction_wants-wanted.ensures) at c.read_farmers-farmers.ensures))))

pub whole_of-requires : goal.whole_of-requires
whole_of-requires g c =
    let wanted = c.auction_wants-wanted.ensures in
    let kept = (handed c.in_ok-words-2.ensures.1 (rw wanted at c.read_farmers-farmers.ensures)).gives.1 in
    let many = kept.count in
    record {
      enough = rw (c.into_servers.ensures, c.in_ok-words-2.ensures.0) (rw wanted at c.in_ok-words.ensures.enough);
      cut = rw (c.into_servers.ensures, c.in_ok-words-2.ensures.0) (rw wanted at c.in_ok-words.ensures.cut);
      few = omega (arith, many, c.requires.few);
      within = let within = c.requires.within in rw many within;
      each = kept.each;
    }

pub returns : goal.returns
unfolding rest_errand
returns g c =
    let wanted = c.auction_wants-wanted.ensures in
    let servers = c.into_servers.ensures ∙ ap (λ words. words.servers) c.in_ok-words-2.ensures.0 in
    bind (rw wanted at c.in_ok-words.ensures.reads)
    (bound (handed c.in_ok-words-2.ensures.1 (rw (c.lists_in.ensures, wanted) at c.read_farmers-farmers.ensures))
    (λ farmers are. given (rw (are.same, ← servers) (sym c.whole_of.ensures))))

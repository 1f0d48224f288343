use Rattle.std.proofs.Common.{arith, refl}
use Rattle.beet_errand.proofs.Frame.{exits, forgotten}
use Rattle.beet_five_load.proofs.ReadServers.{servers-all, servers-more, servers-none, servers-stopped}
use Rattle.beet_five_load.proofs.servers.read_seeded_servers.Goals as goal

pub loop-i-init : goal.loop-i-init
loop-i-init g c = rw c.new-lists.ensures (servers-none _ _ _)

pub returns-in_err-words : goal.returns-in_err-words
returns-in_err-words g c =
    exits c.from_residual.ensures.1 (servers-stopped _ _ c.loop-i.i _ _ _ _ _ (omega arith) refl c.loop-i.invariant _
    c.in_err-words.ensures.reads)

pub returns-in_err-push : goal.returns-in_err-push
returns-in_err-push g c =
    exits c.from_residual-in_err-push.ensures.1 (servers-stopped _ _ c.loop-i.i _ _ _ _ _ (omega arith) refl
    c.loop-i.invariant {T = Unit {0}} {shows = λ done words. Unit {0}} _ (forgotten c.in_ok-words.ensures.reads))

pub loop-i-preserved : goal.loop-i-preserved
loop-i-preserved g c =
    servers-more _ _ c.loop-i.i _ _ _ _ _ (omega arith) refl c.loop-i.invariant _ _ c.in_ok-words.ensures.serves
    c.in_ok-push.ensures c.in_ok-words.ensures.reads

pub returns : goal.returns
returns g c = servers-all _ _ c.loop-i.i _ _ _ (omega arith) c.loop-i.invariant

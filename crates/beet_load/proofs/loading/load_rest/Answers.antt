use Rattle.std.proofs.Common.{subst, sym}
use Rattle.beet_field.specs.declared.trio.Trio.{Trio}
use Rattle.beet_load.specs.Loading.{IsKeptOf, rest_errand}
use Rattle.beet_load.specs.Servers.{ServerWords}
use Rattle.beet_errand.proofs.Frame.{bind, bound, exits, given, stopped}
use Rattle.beet_load.proofs.Inputs.{kept_of_all}
use Rattle.beet_load.proofs.loading.load_rest.Goals as goal

pub returns-in_err-words : goal.returns-in_err-words
unfolding rest_errand
returns-in_err-words g c =
    (exits c.from_residual.ensures.1 (stopped (rw c.auction_wants-wanted.ensures at c.in_err-words.ensures.reads)))

pub returns-in-Err : goal.returns-in-Err
unfolding rest_errand
returns-in-Err g c =
    (bind (rw c.auction_wants-wanted.ensures at c.in_ok-words.ensures.reads) (stopped (rw c.lists_in.ensures at c.in-Err.ensures)))

pub returns-in-Ok : goal.returns-in-Ok
unfolding rest_errand
returns-in-Ok g c =
    (bind (rw c.auction_wants-wanted.ensures at c.in_ok-words.ensures.reads)
    (bound (rw c.lists_in.ensures at c.in-Ok.ensures) (λ farmers are. given (subst (λ (servers : Trio ServerWords).
    IsKeptOf (record { grid = c.args.grid.now; servers = servers; inputs = c.inputs.result })
    (record { grid = c.args.grid.now; servers = c.in_ok-words.words.servers; farmers = farmers }))
    (sym c.into_servers.ensures)
    (kept_of_all c.args.grid.now _ _ _ farmers _ c.requires are c.inputs.ensures.points)))))

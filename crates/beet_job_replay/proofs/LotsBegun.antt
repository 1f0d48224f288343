-- The lots of a session begin, one after another.
use Rattle.std.proofs.Common.{◌≡◌, suc, List, [], ◌∷◌, ◌++◌, length, refl, sym, ap, subst}
use Rattle.std.specs.Prelude.{All}
use Rattle.std.proofs.lemmas.List.Elements.{All-cons, All-nil}
use Rattle.beet_field.specs.declared.trio.Trio.{Trio}
use Rattle.beet_auction.specs.Setups.{inputs_of}
use Rattle.beet_bids.specs.Grids.{Grid}
use Rattle.beet_load.specs.Loading.{AuctionWithBidders, AuctionWithInputs, IsKeptOf}
use Rattle.beet_load.specs.Servers.{ServerWords}
use Rattle.beet_plan.specs.Auction.{Auction, auction_batch}
use Rattle.beet_run.specs.Runs.{Starts}
use Rattle.beet_server.specs.Cores.{AreFresh, Core}
use Rattle.beet_job_replay.specs.Begun.{HasBegun, HaveBegun}

-- the servers of a lot begin with what is kept of it
pub has-begun : (kept : AuctionWithInputs) (loaded : AuctionWithBidders) (cores : Trio (Core Auction)) → IsKeptOf kept loaded →
    Starts kept.grid kept.inputs kept.servers cores → HasBegun kept.grid cores loaded
has-begun kept loaded cores k s = record {
  inputs = kept.inputs;
  kept = subst (λ (words : Trio ServerWords). IsKeptOf (record { grid = kept.grid; servers = words; inputs = kept.inputs }) loaded)
      (sym k.servers) k;
  starts = subst (λ (words : Trio ServerWords). Starts kept.grid kept.inputs words cores) (sym k.servers) s;
}

-- one lot more has begun
pub have-more : (grids : List Grid) (all : List (Trio (Core Auction))) (lots : List AuctionWithBidders) (grid : Grid)
    (cores : Trio (Core Auction)) (loaded : AuctionWithBidders) → HaveBegun grids all lots → HasBegun grid cores loaded →
    HaveBegun (grids ++ grid ∷ []) (all ++ cores ∷ []) (lots ++ loaded ∷ [])
have-more [] [] [] grid cores loaded h one = (one, tt)
have-more [] [] (l ∷ lots) grid cores loaded h one = absurd h
have-more [] (c ∷ all) lots grid cores loaded h one = absurd h
have-more (g ∷ grids) [] lots grid cores loaded h one = absurd h
have-more (g ∷ grids) (c ∷ all) [] grid cores loaded h one = absurd h
have-more (g ∷ grids) (c ∷ all) (l ∷ lots) grid cores loaded h one = (h.0, have-more grids all lots grid cores loaded h.1 one)

-- there are as many grids, and as many times three servers
pub begun-many : (grids : List Grid) (all : List (Trio (Core Auction))) (lots : List AuctionWithBidders) → HaveBegun grids all lots →
    (length grids ≡ length lots) × (length all ≡ length lots)
begun-many [] [] [] h = (refl, refl)
begun-many [] [] (l ∷ lots) h = absurd h
begun-many [] (c ∷ all) lots h = absurd h
begun-many (g ∷ grids) [] lots h = absurd h
begun-many (g ∷ grids) (c ∷ all) [] h = absurd h
begun-many (g ∷ grids) (c ∷ all) (l ∷ lots) h =
    let rest = begun-many grids all lots h.1 in
    (ap suc rest.0, ap suc rest.1)

-- they are fresh
pub begun-fresh : (grids : List Grid) (all : List (Trio (Core Auction))) (lots : List AuctionWithBidders) → HaveBegun grids all lots →
    All (AreFresh auction_batch inputs_of) all
begun-fresh [] [] [] h = All-nil (AreFresh auction_batch inputs_of)
begun-fresh [] [] (l ∷ lots) h = absurd h
begun-fresh [] (c ∷ all) lots h = absurd h
begun-fresh (g ∷ grids) [] lots h = absurd h
begun-fresh (g ∷ grids) (c ∷ all) [] h = absurd h
begun-fresh (g ∷ grids) (c ∷ all) (l ∷ lots) h =
    All-cons (AreFresh auction_batch inputs_of) c all h.0.starts.fresh (begun-fresh grids all lots h.1)

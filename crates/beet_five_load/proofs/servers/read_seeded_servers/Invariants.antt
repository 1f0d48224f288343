use Rattle.std.proofs.Common.{drop}
use Rattle.beet_five_load.proofs.ReadServers.{ReadsServers}
use Rattle.beet_five_load.proofs.servers.read_seeded_servers.Given as goal

abbrev pub invariant-loop-i : goal.invariant-loop-i
invariant-loop-i g l =
    ReadsServers l.fn.wanted l.fn.seeds (drop l.i l.fn.seeds) (g.S.Shelf.seen l.fn.shelf) (g.S.Shelf.seen l.shelf) l.lists

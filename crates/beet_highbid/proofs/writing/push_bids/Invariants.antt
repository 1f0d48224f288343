use Rattle.std.proofs.Common.{◌≡◌, ◌++◌, map, take}
use Rattle.std.specs.List.{flat_map}
use Rattle.beet_mapped.specs.Dealers.{dealers_of}
use Rattle.beet_sale_map.specs.Worlds.{party_of}
use Rattle.beet_highbid.specs.SaleViews.{seen_bid, seen_bytes}
use Rattle.beet_highbid.proofs.writing.push_bids.Given as goal

abbrev pub invariant-loop-i : goal.invariant-loop-i
invariant-loop-i l =
    l.file.items ≡ l.fn.file.items
    ++ flat_map seen_bytes (map (seen_bid l.me) (take l.i (dealers_of (map party_of l.bids) l.words)))

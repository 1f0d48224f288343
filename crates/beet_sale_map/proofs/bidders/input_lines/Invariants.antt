use Rattle.std.proofs.Common.{◌≡◌, map, take}
use Rattle.beet_mapped.specs.Dealers.{dealers_of}
use Rattle.beet_sale_map.specs.InputLines.{dealer_line}
use Rattle.beet_sale_map.specs.Worlds.{party_of}
use Rattle.beet_sale_map.proofs.bidders.input_lines.Given as goal

abbrev pub invariant-loop-i : goal.invariant-loop-i
invariant-loop-i l = l.lines.items ≡ map dealer_line (take l.i (dealers_of (map party_of l.bids) l.words))

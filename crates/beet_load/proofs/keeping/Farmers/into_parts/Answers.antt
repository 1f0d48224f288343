use Rattle.std.proofs.Common.{ap, ◌∙◌, map}
use Rattle.beet_book.proofs.FarmerLists.{farmers-bidders, farmers-words}
use Rattle.beet_load.proofs.keeping.Farmers.into_parts.Goals as goal

pub returns-clause-bidders : goal.returns-clause-bidders
returns-clause-bidders c =
    farmers-bidders c.self.inside.bidders.items c.self.inside.words.items c.self.invariant
    ∙ ap (map (λ farmer. farmer.bidder)) c.self.view_is

pub returns-clause-words : goal.returns-clause-words
returns-clause-words c =
    farmers-words c.self.inside.bidders.items c.self.inside.words.items c.self.invariant ∙ ap (map (λ farmer. farmer.words)) c.self.view_is

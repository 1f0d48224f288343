use Rattle.std.proofs.Common.{[], ◌∷◌, ◌++◌, ap, ◌∙◌}
use Rattle.beet_book.proofs.FarmerLists.{farmers-pushed}
use Rattle.beet_load.proofs.keeping.Farmers.push.Goals as goal

pub returns : goal.returns
returns c =
    rw (← c.into_words-words.ensures) (farmers-pushed c.self.inside.bidders.items c.self.inside.words.items
    (record { known = c.args.known; curve = c.args.farmer.curve }) _ _ _ _
    c.self.invariant c.self.view_is
    (c.push_reserved.ensures.items
    ∙ ap (λ l. l ++ record { known = c.args.known; curve = c.args.farmer.curve } ∷ []) c.in_ok-reserve.ensures.items)
    (c.push_reserved-2.ensures.items ∙ ap (λ l. l ++ c.into_words-words.result ∷ []) c.in_ok-reserve-2.ensures.items))

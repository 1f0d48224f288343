-- What a list of bidders is made of.
use Rattle.std.specs.Prelude.{[], ◌∷◌, ◌++◌, List, option_map}
use Rattle.beet_view.specs.declared.listed.Listing.{Listing}
use Rattle.beet_view.specs.declared.listed.Listing.TheVariants.{Empty, And, Both}
use Rattle.beet_view.specs.declared.view.Seen.{Seen}

-- the bidders of what a list is made of
abbrev pub listed : Listing → List Seen
listed Empty = []
listed (And before known points own) =
    before.now.bidders
    ++ record { known = known; points = points.now; own = option_map (λ o. (o.0.now, o.1.now)) own } ∷ []
listed (Both first second) = first.now.bidders ++ second.now.bidders

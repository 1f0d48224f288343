-- The lines for too few words.
use Rattle.std.specs.Prelude.{ℕ, List, Option, ◌++◌, codes, decimal}
use Rattle.beet_errand.specs.Texts.{line_of}
use Rattle.beet_load.specs.Lots.{lot_text}

-- too few words of the bidder with this number, of an auction alone or of a lot: so many are held, and so many wanted
abbrev pub too_few_text : Option ℕ → ℕ → ℕ → ℕ → List ℕ
too_few_text lot bidder held want =
    line_of (codes "too few words: " ++ lot_text lot ++ codes "bidder " ++ decimal bidder ++ codes " " ++ decimal held
    ++ codes " of " ++ decimal want)

-- too few words of a kind of the server with this number: so many are held, and so many wanted
abbrev pub server_short_text : Option ℕ → ℕ → List ℕ → ℕ → ℕ → List ℕ
server_short_text lot server kind held want =
    line_of (codes "too few words: " ++ lot_text lot ++ codes "server " ++ decimal server ++ codes " " ++ kind
    ++ codes " " ++ decimal held ++ codes " of " ++ decimal want)

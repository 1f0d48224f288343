-- The words of five servers and of all bidders in one binary file.
use Rattle.std.specs.Prelude.{ℕ, ◌++◌, List, codes, length}
use Rattle.std.specs.List.{flat_map}
use Rattle.beet_words.specs.Bundles.{list_bytes, server_bytes}
use Rattle.beet_words.specs.Fields.{number_bytes}
use Rattle.beet_weights.specs.Quadratics.{servers}
use Rattle.beet_coalition.specs.Lists.{at_server}
use Rattle.beet_five_dealing.specs.FiveWords.{FiveWords}

-- the text that the file begins with
abbrev pub words_magic : List ℕ
words_magic = codes "BEETFW01"

-- the bytes of a server's masks and coefficients
abbrev pub lists_of : FiveWords → ℕ → List ℕ
lists_of words s = server_bytes (at_server words.masks s) (at_server words.coefficients s)

-- the number of bidders, the lists of servers 1 to 5, and the words of each bidder
abbrev pub words_bytes : FiveWords → List ℕ
words_bytes words =
    words_magic ++ (number_bytes (length words.bidders)
    ++ (flat_map (lists_of words) servers ++ flat_map list_bytes words.bidders))

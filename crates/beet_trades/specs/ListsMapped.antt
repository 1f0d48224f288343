-- The words of those who deal in two worlds.
use Rattle.std.specs.Prelude.{◌≡◌, ℕ, List, All, length}
use Rattle.beet_field.specs.declared.point.Point.{Point}
use Rattle.beet_words.specs.Words.{IsWord}
use Rattle.beet_mapped.specs.Dealers.{Party, DealersMapped, dealers_of}

-- as many lists, which are mapped for server s; all words are below 2^61
pub record ListsMapped (s : Point) (parties others : List Party) (words words' : List (List ℕ)) : Type 0 where
  pub count : length words' ≡ length words
  pub mapped : DealersMapped s (dealers_of parties words) (dealers_of others words')
  pub below : All (λ list. All IsWord list) words
  pub below' : All (λ list. All IsWord list) words'

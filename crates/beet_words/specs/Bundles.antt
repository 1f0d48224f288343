-- Bundles: the words of three servers and of all bidders in one binary file.
use Rattle.std.specs.Prelude.{ℕ, ◌≤◌, ◌++◌, List, length, codes, Ok, All}
use Rattle.std.specs.List.{flat_map}
use Rattle.beet_field.specs.declared.trio.Trio.{Trio}
use Rattle.beet_forms.specs.Faults.{Reading}
use Rattle.beet_words.specs.declared.bundle.TheConstants.{MOST_WORDS, MOST_BIDDERS, BAD_MAGIC, TRUNCATED, BAD_NUMBER}
use Rattle.beet_words.specs.declared.bundle.TheConstants.{TRAILING}
use Rattle.beet_words.specs.declared.fields.Allowed.{Allowed}
use Rattle.beet_words.specs.Words.{IsWord, ones}
use Rattle.beet_words.specs.Fields.{Part, number_bytes, number_at, times, counted_at, after_magic, ended, ◌>>=◌}

-- the lists of words of the three servers and of each bidder
pub record Words : Type 0 where
  pub masks : Trio (List ℕ)
  pub coefficients : Trio (List ℕ)
  pub bidders : List (List ℕ)

-- the text that a bundle begins with
abbrev pub magic : List ℕ
magic = codes "BEETWD01"

-- a number of a bundle, from 0 to the highest
abbrev pub up_to : ℕ → Allowed
up_to highest = record { low = 0; high = highest; truncated = TRUNCATED; outside = BAD_NUMBER }

-- a word, below 2^61
abbrev pub word_at : List ℕ → Part ℕ
word_at bytes = number_at bytes (up_to ones)

-- a count, at most so many, and as many words
abbrev pub words_at : List ℕ → ℕ → Part (List ℕ)
words_at bytes most = counted_at bytes (up_to most) (word_at bytes)

-- a list of words of a bundle
abbrev pub list_at : List ℕ → Part (List ℕ)
list_at bytes = words_at bytes MOST_WORDS

-- the masks of a server, and then its coefficients
unfoldable pub server_at : List ℕ → Part (List ℕ × List ℕ)
server_at bytes at = do
  masks ← list_at bytes at
  coefficients ← list_at bytes masks.1
  Ok ((masks.0, coefficients.0), coefficients.1)

-- what a bundle reads as: the number of bidders, the three servers, the bidders
unfoldable pub bundle_of : List ℕ → Reading Words
bundle_of bytes = do
  start ← after_magic bytes magic BAD_MAGIC
  count ← number_at bytes (up_to MOST_BIDDERS) start
  one ← server_at bytes count.1
  two ← server_at bytes one.1
  three ← server_at bytes two.1
  bidders ← times count.0 (list_at bytes) three.1
  done ← ended bytes TRAILING bidders.1
  Ok (record {
    masks = record { one = one.0.0; two = two.0.0; three = three.0.0 };
    coefficients = record { one = one.0.1; two = two.0.1; three = three.0.1 };
    bidders = bidders.0;
  })

-- the bytes of a list of words, after its count
abbrev pub list_bytes : List ℕ → List ℕ
list_bytes words = number_bytes (length words) ++ flat_map number_bytes words

-- the bytes of a server's masks and coefficients
abbrev pub server_bytes : List ℕ → List ℕ → List ℕ
server_bytes masks coefficients = list_bytes masks ++ list_bytes coefficients

abbrev pub bundle_bytes : Words → List ℕ
bundle_bytes words =
    magic ++ (number_bytes (length words.bidders)
    ++ (server_bytes words.masks.one words.coefficients.one
    ++ (server_bytes words.masks.two words.coefficients.two
    ++ (server_bytes words.masks.three words.coefficients.three
    ++ flat_map list_bytes words.bidders))))

-- all numbers are words
pub record AreWords (words : Words) : Type 0 where
  pub masks : All IsWord words.masks.one × All IsWord words.masks.two × All IsWord words.masks.three
  pub coefficients : All IsWord words.coefficients.one × All IsWord words.coefficients.two
      × All IsWord words.coefficients.three
  pub bidders : All (λ list. All IsWord list) words.bidders

-- the list may stand in a bundle
abbrev pub IsShort : List ℕ → Type 0
IsShort words = length words ≤ MOST_WORDS

-- the words may stand in a bundle
pub record FitsBundle (words : Words) : Type 0 where
  pub count : length words.bidders ≤ MOST_BIDDERS
  pub masks : IsShort words.masks.one × IsShort words.masks.two × IsShort words.masks.three
  pub coefficients : IsShort words.coefficients.one × IsShort words.coefficients.two × IsShort words.coefficients.three
  pub bidders : All IsShort words.bidders

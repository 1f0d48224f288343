-- The words of the servers: how many each wants, and where they are read.
use Rattle.std.specs.Prelude.{ℕ, ◌+◌, ◌≤◌, ◌==◌, List, length, take, nat_lt, if◌then◌else◌, Option, Some, None, Ok, Err}
use Rattle.std.specs.Prelude.{codes}
use Rattle.beet_field.specs.declared.trio.Trio.{Trio}
use Rattle.beet_forms.specs.Faults.{Fault, Reading}
use Rattle.beet_forms.specs.declared.faults.FaultPlace.TheVariants.{At}
use Rattle.beet_words.specs.Words.{accepted}
use Rattle.beet_words.specs.Seeds.{seed_words}
use Rattle.beet_words.specs.TapeFiles.{tape_of}
use Rattle.beet_words.specs.Bundles.{Words, bundle_of}
use Rattle.beet_book.specs.declared.sources.ServerSource.{ServerSource}
use Rattle.beet_book.specs.declared.sources.ServerSource.TheVariants.{Seed, Tapes}
use Rattle.beet_book.specs.declared.sources.Servers.{Servers}
use Rattle.beet_book.specs.declared.sources.Servers.TheVariants.{Three, Bundle}
use Rattle.beet_errand.specs.Errands.{Errand, Step, gives, reads, refuses, ◌>>=◌, ◌>>◌}
use Rattle.beet_load.specs.Counts.{Counts}
use Rattle.beet_masking.specs.Masks.{with_spare}
use Rattle.beet_load.specs.Lots.{first_stream}
use Rattle.beet_load.specs.WordTexts.{server_short_text}
use Rattle.beet_load.specs.declared.wanted.Wanted.{Wanted}
use Rattle.beet_errand.specs.declared.answer.Refusal.TheVariants.{TooFewWords}
use Rattle.beet_words.specs.declared.tape_file.TheConstants.{TAPE_LIMIT}
use Rattle.beet_forms.specs.declared.faults.TheConstants.{LONGEST_FILE}
use Rattle.beet_words.specs.declared.bundle.TheConstants.{WRONG_COUNT}

-- the words of one server: for its masks, and for the numbers that it draws
pub record ServerWords : Type 0 where
  pub masks : List ℕ
  pub coefficients : List ℕ

-- the words of the three servers, and those of the bidders if a bundle has them
pub record AllWords : Type 0 where
  pub servers : Trio ServerWords
  pub bidders : Option (List (List ℕ))

-- the mask words of the three servers
abbrev pub masks_of : Trio ServerWords → Trio (List ℕ)
masks_of servers = record { one = servers.one.masks; two = servers.two.masks; three = servers.three.masks }

-- their words for numbers
abbrev pub coefficients_of : Trio ServerWords → Trio (List ℕ)
coefficients_of servers = record {
  one = servers.one.coefficients;
  two = servers.two.coefficients;
  three = servers.three.coefficients;
}

-- a server has as many words as are wanted of it
pub record HasEnough (counts : Counts) (words : ServerWords) : Type 0 where
  pub coefficients : counts.coefficients ≤ length (accepted words.coefficients)
  pub masks : counts.masks ≤ length words.masks

pub record HaveEnough (counts : Counts) (servers : Trio ServerWords) : Type 0 where
  pub one : HasEnough counts servers.one
  pub two : HasEnough counts servers.two
  pub three : HasEnough counts servers.three

-- the words of a server are no more than are kept
pub record IsCut (counts : Counts) (words : ServerWords) : Type 0 where
  pub masks : length words.masks ≤ counts.masks
  pub coefficients : length words.coefficients ≤ with_spare counts.coefficients

-- so it is at each server
pub record AreCut (counts : Counts) (servers : Trio ServerWords) : Type 0 where
  pub one : IsCut counts servers.one
  pub two : IsCut counts servers.two
  pub three : IsCut counts servers.three

-- the words of a seed: a stream for numbers, and the next one for masks
abbrev pub seeded : Wanted → List ℕ → ServerWords
seeded wanted seed = record {
  masks = seed_words seed (first_stream wanted.lot + 1) wanted.counts.masks;
  coefficients = seed_words seed (first_stream wanted.lot) (with_spare wanted.counts.coefficients);
}

-- the words of a source: of two tapes the one for numbers is read first
abbrev pub source_errand : Wanted → ServerSource → Step ServerWords
source_errand wanted (Seed seed) = gives (seeded wanted seed)
source_errand wanted (Tapes coefficients masks) = do
  numbers ← reads coefficients TAPE_LIMIT (λ bytes. tape_of bytes (with_spare wanted.counts.coefficients))
  words ← reads masks TAPE_LIMIT (λ bytes. tape_of bytes wanted.counts.masks)
  gives (record { masks = words; coefficients = numbers })

-- so many words are held of this kind, and they are enough, or the server with this number has too few
abbrev pub enough_held : Option ℕ → ℕ → List ℕ → ℕ → ℕ → Errand → Errand
enough_held lot server kind held wanted next =
    if nat_lt held wanted then refuses TooFewWords (server_short_text lot server kind held wanted) else next

-- the server with this number has enough words, of which those for numbers are counted first, without the words that
-- are passed over
abbrev pub enough_of : Wanted → ℕ → ServerWords → Errand → Errand
enough_of wanted server words next =
    enough_held wanted.lot server (codes "coefficients")
    (length (accepted words.coefficients)) wanted.counts.coefficients
    (enough_held wanted.lot server (codes "masks") (length words.masks) wanted.counts.masks next)

-- the words of the server with this number
abbrev pub server_errand : Wanted → ℕ → ServerSource → Step ServerWords
server_errand wanted server source = do
  words ← source_errand wanted source
  enough_of wanted server words
  gives words

-- the words of the three servers, each from its own source
abbrev pub three_errand : Wanted → Trio ServerSource → Step (Trio ServerWords)
three_errand wanted sources = do
  one ← server_errand wanted 1 sources.one
  two ← server_errand wanted 2 sources.two
  three ← server_errand wanted 3 sources.three
  gives (record { one = one; two = two; three = three })

-- what stands for a bundle of another number of bidders
abbrev pub wrong_count : Fault
wrong_count = record { place = At 8; reason = WRONG_COUNT }

-- the words of a bundle, which has so many bidders if a number is given
abbrev pub counted : Option ℕ → Reading Words → Reading Words
counted None reading = reading
counted (Some count) (Ok words) = if length words.bidders == count then Ok words else Err wrong_count
counted (Some count) (Err fault) = Err fault

-- the words of a server in a bundle, cut as those of tapes are
abbrev pub cut_server : Counts → List ℕ → List ℕ → ServerWords
cut_server counts masks coefficients = record {
  masks = take counts.masks masks;
  coefficients = take (with_spare counts.coefficients) coefficients;
}

-- the words of the servers in a bundle
abbrev pub cut_servers : Counts → Words → Trio ServerWords
cut_servers counts words = record {
  one = cut_server counts words.masks.one words.coefficients.one;
  two = cut_server counts words.masks.two words.coefficients.two;
  three = cut_server counts words.masks.three words.coefficients.three;
}

abbrev pub enough_of_all : Wanted → Trio ServerWords → Errand → Errand
enough_of_all wanted servers next =
    enough_of wanted 1 servers.one (enough_of wanted 2 servers.two (enough_of wanted 3 servers.three next))

-- all words, for so many bidders if their number is given
abbrev pub all_words_errand : Wanted → Option ℕ → Servers → Step AllWords
all_words_errand wanted count (Three sources) = do
  servers ← three_errand wanted sources
  gives (record { servers = servers; bidders = None })
all_words_errand wanted count (Bundle name) = do
  words ← reads name LONGEST_FILE (λ bytes. counted count (bundle_of bytes))
  enough_of_all wanted (cut_servers wanted.counts words)
  gives (record { servers = cut_servers wanted.counts words; bidders = Some words.bidders })

-- A bundle that was written is read again.
use Rattle.std.proofs.Common.{◌≡◌, ℕ, ◌+◌, List, [], ◌++◌, length, All, Ok, refl, sym, ap, ◌∙◌, arith}
use Rattle.std.specs.List.{flat_map}
use Rattle.std.proofs.lemmas.Bool.{le-ltb}
use Rattle.std.proofs.lemmas.List.{append-nil, length-append}
use Rattle.beet_words.specs.declared.bundle.TheConstants.{MOST_WORDS, MOST_BIDDERS, BAD_MAGIC, TRAILING}
use Rattle.beet_words.specs.Words.{IsWord, ones}
use Rattle.beet_words.specs.Fields.{number_bytes, number_at, times, counted_at, after_magic, ended}
use Rattle.beet_words.specs.Bundles.{Words, magic, up_to, word_at, list_at, server_at, bundle_of, list_bytes}
use Rattle.beet_words.specs.Bundles.{server_bytes, bundle_bytes, IsShort, AreWords, FitsBundle}
use Rattle.beet_words.proofs.BundleParts.{after_servers}
use Rattle.beet_words.proofs.FieldsAgain.{StandsAt, StandsAt-left, StandsAt-right, number_at-number, times-parts}

-- a list of words is read
list_at-list : (bytes words : List ℕ) (at : ℕ) →
    IsShort words →
    All IsWord words →
    StandsAt bytes at (list_bytes words) →
    list_at bytes at ≡ Ok (words, at + length (list_bytes words))
unfolding counted_at
list_at-list bytes words at short below s =
    let count = number_at-number bytes (up_to MOST_WORDS) at (length words) (omega arith) short (omega arith)
    (StandsAt-left bytes at (number_bytes (length words)) (flat_map number_bytes words) s) in
    let each : (word offset : ℕ) → IsWord word → StandsAt bytes offset (number_bytes word) →
    word_at bytes offset ≡ Ok (word, offset + length (number_bytes word)) =
    λ word offset small stands. number_at-number bytes (up_to ones) offset word (omega arith) (omega arith) (omega arith) stands in
    let items = times-parts bytes (word_at bytes) number_bytes IsWord words (at + 8) each below
    (StandsAt-right bytes at (number_bytes (length words)) (flat_map number_bytes words) s) in
    let place : at + 8 + length (flat_map number_bytes words) ≡ at + length (list_bytes words) =
    omega (arith, length-append (number_bytes (length words)) (flat_map number_bytes words)) in
    rw (count, items) (ap (λ n. Ok (words, n)) place)

-- the lists of a server are read
server_at-server : (bytes masks coefficients : List ℕ) (at : ℕ) →
    IsShort masks →
    IsShort coefficients →
    All IsWord masks →
    All IsWord coefficients →
    StandsAt bytes at (server_bytes masks coefficients) →
    server_at bytes at ≡ Ok ((masks, coefficients), at + length (server_bytes masks coefficients))
unfolding server_at
server_at-server bytes masks coefficients at m c below_m below_c s =
    let first = list_at-list bytes masks at m below_m (StandsAt-left bytes at (list_bytes masks) (list_bytes coefficients) s) in
    let second = list_at-list bytes coefficients (at + length (list_bytes masks)) c below_c
    (StandsAt-right bytes at (list_bytes masks) (list_bytes coefficients) s) in
    let place : at + length (list_bytes masks) + length (list_bytes coefficients) ≡ at + length
    (server_bytes masks coefficients) = omega (arith, length-append (list_bytes masks) (list_bytes coefficients)) in
    rw (first, second) (ap (λ n. Ok ((masks, coefficients), n)) place)

-- a list that may stand in a bundle
record FitsList (words : List ℕ) : Type 0 where
  pub short : IsShort words
  pub below : All IsWord words

-- each of the lists may stand there
FitsList-all : (lists : List (List ℕ)) → All IsShort lists → All (λ list. All IsWord list) lists → All FitsList lists
FitsList-all lists short below k d h = record { short = short k d h; below = below k d h }

-- lists one after another are read
lists_at-lists : (bytes : List ℕ) (lists : List (List ℕ)) (at : ℕ) →
    All IsShort lists →
    All (λ list. All IsWord list) lists →
    StandsAt bytes at (flat_map list_bytes lists) →
    times (length lists) (list_at bytes) at ≡ Ok (lists, at + length (flat_map list_bytes lists))
lists_at-lists bytes lists at short below s =
    let each : (list : List ℕ) (offset : ℕ) → FitsList list → StandsAt bytes offset (list_bytes list) →
    list_at bytes offset ≡ Ok (list, offset + length (list_bytes list)) =
    λ list offset fits stands. list_at-list bytes list offset fits.short fits.below stands in
    times-parts bytes (list_at bytes) list_bytes FitsList lists at each (FitsList-all lists short below) s

-- a bundle whose parts are read one after another up to its end
bundle_of-parts : (file : List ℕ) (words : Words) (one two three lists : ℕ) →
    after_magic file magic BAD_MAGIC ≡ Ok 8 →
    number_at file (up_to MOST_BIDDERS) 8 ≡ Ok (length words.bidders, 16) →
    server_at file 16 ≡ Ok ((words.masks.one, words.coefficients.one), one) →
    server_at file one ≡ Ok ((words.masks.two, words.coefficients.two), two) →
    server_at file two ≡ Ok ((words.masks.three, words.coefficients.three), three) →
    times (length words.bidders) (list_at file) three ≡ Ok (words.bidders, lists) →
    ended file TRAILING lists ≡ Ok tt →
    bundle_of file ≡ Ok words
bundle_of-parts file words one two three lists a b c d e f g = after_servers file _ _ _ _ _ _ _ _ _ a b c d e ∙ rw (f, g) refl

-- the bytes of a bundle are read as its words
pub bundle_of-bundle : (words : Words) → FitsBundle words → AreWords words → bundle_of (bundle_bytes words) ≡ Ok words
bundle_of-bundle words fits are =
    let file = bundle_bytes words in
    let count = number_bytes (length words.bidders) in
    let server_one = server_bytes words.masks.one words.coefficients.one in
    let server_two = server_bytes words.masks.two words.coefficients.two in
    let server_three = server_bytes words.masks.three words.coefficients.three in
    let lists = flat_map list_bytes words.bidders in
    let after_three = server_three ++ lists in
    let after_two = server_two ++ after_three in
    let after_one = server_one ++ after_two in
    let place_two = 16 + length server_one in
    let place_three = place_two + length server_two in
    let place_lists = place_three + length server_three in
    let at_magic : StandsAt file 0 file = record { front = []; rest = []; whole = sym (append-nil file); place = refl } in
    let at_count = StandsAt-right file 0 magic (count ++ after_one) at_magic in
    let at_one = StandsAt-right file 8 count after_one at_count in
    let at_two = StandsAt-right file 16 server_one after_two at_one in
    let at_three = StandsAt-right file place_two server_two after_three at_two in
    let at_lists = StandsAt-right file place_three server_three lists at_three in
    let read_count = number_at-number file (up_to MOST_BIDDERS) 8 (length words.bidders) (omega arith) fits.count
    (omega arith) (StandsAt-left file 8 count after_one at_count) in
    let read_one =
    server_at-server file words.masks.one words.coefficients.one 16 fits.masks.0 fits.coefficients.0 are.masks.0
    are.coefficients.0 (StandsAt-left file 16 server_one after_two at_one) in
    let read_two =
    server_at-server file words.masks.two words.coefficients.two place_two fits.masks.1 fits.coefficients.1 are.masks.1
    are.coefficients.1 (StandsAt-left file place_two server_two after_three at_two) in
    let read_three =
    server_at-server file words.masks.three words.coefficients.three place_three fits.masks.2 fits.coefficients.2
    are.masks.2 are.coefficients.2 (StandsAt-left file place_three server_three lists at_three) in
    let read_lists = lists_at-lists file words.bidders place_lists fits.bidders are.bidders at_lists in
    let all : length file ≡ place_lists + length lists =
    omega (arith, length-append server_one after_two, length-append server_two after_three, length-append server_three lists) in
    let end : ended file TRAILING (place_lists + length lists) ≡ Ok tt =
    rw (le-ltb (place_lists + length lists) (length file) (omega arith)) refl in
    bundle_of-parts file words place_two place_three place_lists
    (place_lists + length lists) refl read_count read_one read_two read_three read_lists end

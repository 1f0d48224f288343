-- The word of the command line that names where a farmer's words come from.
use Rattle.std.specs.Prelude.{ℕ, List, length, drop, Option, Some, None, option_map, nat_eq, codes, if◌then◌else◌}
use Rattle.std.specs.List.{starts_with}
use Rattle.beet_words.specs.Seeds.{seed_of}
use Rattle.beet_book.specs.Entries.{name_of}
use Rattle.beet_book.specs.declared.entries.BidderSource.{BidderSource}
use Rattle.beet_book.specs.declared.entries.BidderSource.TheVariants.{Seed, Tape}
use Rattle.beet_job_envelopes.specs.declared.source_word.SourceWord.{SourceWord}
use Rattle.beet_job_envelopes.specs.declared.source_word.SourceWord.TheVariants.{Seed as SeedWord, Tape as TapeWord}

-- what follows `seed:`, 64 hexadecimal digits, or `tape:`, a name; or none if the word is anything else
abbrev pub source_word : List ℕ → Option BidderSource
source_word word =
    if starts_with nat_eq word (codes "seed:") then option_map Seed (seed_of (drop 5 word))
    else if starts_with nat_eq word (codes "tape:") then option_map Tape (name_of (drop 5 word))
    else None

abbrev pub named_source : SourceWord → BidderSource
named_source (SeedWord seed) = Seed seed
named_source (TapeWord name) = Tape name.now

-- what a text goes on with after it has begun so, or none if it does not begin so
abbrev pub text_after : List ℕ → List ℕ → Option (List ℕ)
text_after front text = if starts_with nat_eq text front then Some (drop (length front) text) else None

-- The words of five servers, which are made of their seeds.
use Rattle.std.specs.Prelude.{◌≡◌, ◌≤◌, ◌<◌, ℕ, ◌+◌, ◌^◌, List, [], ◌∷◌, ◌++◌, All, length, map}
use Rattle.std.specs.Prelude.{slice_index_or}
use Rattle.beet_words.specs.Words.{IsWord}
use Rattle.beet_book.specs.declared.sources.ServerSource.TheVariants.{Seed}
use Rattle.beet_errand.specs.Errands.{Step, gives, ◌>>=◌}
use Rattle.beet_load.specs.Counts.{Counts}
use Rattle.beet_load.specs.Servers.{HasEnough, ServerWords, server_errand}
use Rattle.beet_load.specs.declared.wanted.Wanted.{Wanted}
use Rattle.beet_bids.specs.Grids.{Grid}
use Rattle.beet_linear_sharing.specs.Schemes.{five_servers}
use Rattle.beet_linear_sharing.specs.Sharings.{IsAmong}
use Rattle.beet_coalition.specs.Lists.{at_server}
use Rattle.beet_plan.specs.FivePlan.{five_over, most_masks}
use Rattle.beet_five_dealing.specs.FiveWords.{AreFive, CanDraw}

-- the words of the servers with these seeds in order, after those that are read; the servers are numbered from 1
abbrev pub servers_errand : Wanted → List ServerWords → List (List ℕ) → Step (List ServerWords)
servers_errand wanted read [] = gives read
servers_errand wanted read (seed ∷ seeds) = do
  words ← server_errand wanted (length read + 1) (Seed seed)
  servers_errand wanted (read ++ words ∷ []) seeds

-- the mask words of each server, and its words for numbers
pub record ServerLists : Type 0 where
  pub masks : List (List ℕ)
  pub coefficients : List (List ℕ)

-- those of these servers
abbrev pub lists_of : List ServerWords → ServerLists
lists_of servers = record {
  masks = map (λ words. words.masks) servers;
  coefficients = map (λ words. words.coefficients) servers;
}

-- the words of a server are words, as many as are wanted, and fewer than 2^32
pub record CanServe (counts : Counts) (words : ServerWords) : Type 0 where
  pub masks : All IsWord words.masks
  pub coefficients : All IsWord words.coefficients
  pub enough : HasEnough counts words
  pub few_masks : length words.masks < 2 ^ 32
  pub few_coefficients : length words.coefficients < 2 ^ 32

-- what is kept of the servers with these seeds
pub record AreServing (counts : Counts) (seeds : List (List ℕ)) (kept : ServerLists) (servers : List ServerWords) :
    Type 0 where
  pub lists : kept ≡ lists_of servers
  pub count : length servers ≡ length seeds
  pub each : All (CanServe counts) servers

-- each list has fewer than 2^32 words
abbrev pub AreFew : List (List ℕ) → Type 0
AreFew lists = (k : ℕ) → length (slice_index_or lists k []) < 2 ^ 32

-- the words of five servers, with which they can run the auction over a grid
pub record CanServeAll (grid : Grid) (lists : ServerLists) : Type 0 where
  pub masks : AreFive lists.masks
  pub coefficients : AreFive lists.coefficients
  pub dealing : (j : ℕ) → IsAmong five_servers.servers j →
      most_masks (five_over grid) ≤ length (at_server lists.masks j)
  pub drawing : CanDraw grid lists.coefficients
  pub few_masks : AreFew lists.masks
  pub few_coefficients : AreFew lists.coefficients

-- Three servers that run a script, and those that run the auction over a grid.
use Rattle.std.specs.Prelude.{◌≡◌, ◌≤◌, ℕ, List, length, true}
use Rattle.beet_field.specs.Trio.{member}
use Rattle.beet_field.specs.declared.point.Point.{Point}
use Rattle.beet_field.specs.declared.trio.Trio.{Trio}
use Rattle.beet_words.specs.Words.{accepted}
use Rattle.beet_gates.specs.declared.Batch.{Batch}
use Rattle.beet_bids.specs.Grids.{Grid}
use Rattle.beet_plan.specs.Auction.{Auction, auction_batch, auction_over, most_rounds}
use Rattle.beet_masking.specs.Masks.{AreMasks}
use Rattle.beet_plan.specs.declared.Finish.{Finish}
use Rattle.beet_server.specs.Cores.{Core, AreFresh, has_ended, setup_of}
use Rattle.beet_delivery.specs.Events.{Delivered}
use Rattle.beet_server.specs.Fits.{Fits}
use Rattle.beet_sharing.specs.Runs.{Setup, numbers_of}
use Rattle.beet_server.specs.Lockstep.{HaveEnded}
use Rattle.beet_auction.specs.Endings.{AuctionEnds}
use Rattle.beet_auction.specs.Setups.{auction_setup, inputs_of}
use Rattle.beet_load.specs.Servers.{ServerWords, masks_of, coefficients_of}

-- the setup of an auction over a grid, with these points of the inputs and these words of the servers
abbrev pub setup_with : Grid → Trio (List ℕ) → Trio ServerWords → Setup
setup_with grid inputs words = auction_setup grid inputs (masks_of words) (coefficients_of words)

-- a server can begin a script with these points and words: it has a point of each input, and as many words as the
-- script may ask for
pub record CanStart {S : Type 0} (inputs_of coefficients_of masks_of : S → ℕ) (script : S) (inputs : List ℕ)
    (words : ServerWords) : Type 0 where
  pub points : length inputs ≡ inputs_of script
  pub coefficients : coefficients_of script ≤ length (accepted words.coefficients)
  pub masks : masks_of script ≤ length words.masks

module _ {S : Type 0} (next : S → ℕ → List ℕ → Batch) (wanted : S → ℕ) where
  -- the setup of a script, with these points of the inputs and these words of the servers
  abbrev pub setup_from : S → Trio (List ℕ) → Trio ServerWords → Setup
  setup_from script inputs words = record {
    next = next script;
    inputs = inputs;
    masks = masks_of words;
    numbers = numbers_of (coefficients_of words);
  }

  -- three fresh servers that begin a script, with these points of the inputs, as many as are wanted, and these words
  pub record StartScript (begun : S) (inputs : Trio (List ℕ)) (words : Trio ServerWords) (cores : Trio (Core S)) :
      Type 0 where
    pub fresh : AreFresh next wanted cores
    pub script : (s : Point) → (member cores s).script ≡ begun
    pub setup : setup_of next wanted cores ≡ setup_from begun inputs words
    pub masks : (s : Point) → (member cores s).masks.words ≡ (member words s).masks
    pub coefficients : (s : Point) → (member cores s).coefficients.words ≡ (member words s).coefficients
    pub are_masks : AreMasks (masks_of words)

  -- three servers have run a script of at most so many rounds, with these points and words, from its start to its end
  pub record HaveRunScript (most : S → ℕ) (script : S) (inputs : Trio (List ℕ)) (words : Trio ServerWords)
      (cores : Trio (Core S)) : Type 0 where
    pub start : Trio (Core S)
    pub starts : StartScript script inputs words start
    pub ended : HaveEnded next wanted most start cores

-- three fresh servers that begin the auction over a grid
abbrev pub Starts : Grid → Trio (List ℕ) → Trio ServerWords → Trio (Core Auction) → Type 0
Starts grid inputs words cores = StartScript auction_batch inputs_of (auction_over grid) inputs words cores

-- three servers have run the auction over a grid from its start to its end
abbrev pub HaveRunToEnd : Grid → Trio (List ℕ) → Trio ServerWords → Trio (Core Auction) → Type 0
HaveRunToEnd grid inputs words cores =
    HaveRunScript auction_batch inputs_of most_rounds (auction_over grid) inputs words cores

-- a server of some run that has ended
pub record HasEndedRun (core : Core Auction) : Type 0 where
  pub setup : Setup
  pub delivered : Delivered
  pub fits : Fits auction_batch setup delivered core
  pub ended : has_ended auction_batch core ≡ true

-- the auction over a grid with these points and words ends with this finish after so many rounds
pub record EndsAuction (grid : Grid) (inputs : Trio (List ℕ)) (words : Trio ServerWords) (finish : Finish)
    (rounds : ℕ) : Type 0 where
  pub ends : AuctionEnds (auction_over grid) (setup_with grid inputs words) rounds finish
  pub masks : AreMasks (masks_of words)

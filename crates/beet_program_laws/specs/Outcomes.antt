-- What is told of the auction of a book with words, and what servers do that run it.
use Rattle.std.specs.Prelude.{◌≡◌, ℕ, Bool, List, [], ◌∷◌, Some, length, true, false}
use Rattle.beet_field.specs.Trio.{trio_of}
use Rattle.beet_field.specs.declared.point.Point.{Point}
use Rattle.beet_field.specs.declared.point.Point.TheVariants.{One, Two, Three}
use Rattle.beet_field.specs.declared.trio.Trio.{Trio}
use Rattle.beet_store.specs.Files.{File}
use Rattle.beet_words.specs.Bundles.{Words}
use Rattle.beet_bids.specs.Books.{Book, IsBook}
use Rattle.beet_bids.specs.Outcomes.{clearing_place, outcome_of}
use Rattle.beet_masking.specs.Masks.{is_spent, mask_among}
use Rattle.beet_plan.specs.Runs.{finish_of}
use Rattle.beet_plan.specs.Search.{path}
use Rattle.beet_plan.specs.declared.Finish.{Finish}
use Rattle.beet_plan.specs.declared.Finish.TheVariants.{MasksSpent}
use Rattle.beet_delivery.specs.Events.{Triple}
use Rattle.beet_delivery.specs.Networks.{Triple as Event, after, nothing}
use Rattle.beet_weights.specs.Quadratics.{of_five}
use Rattle.beet_coalition.specs.Lists.{at_server}
use Rattle.beet_five_server.specs.Network.{five}
use Rattle.beet_five_world.specs.Members.{AllFit, LeadAll, Seen}
use Rattle.beet_plan.specs.FivePlan.{FiveAuction, five_batch, five_over}
use Rattle.beet_five_dealing.specs.FiveInputs.{setup_of}
use Rattle.beet_five_dealing.specs.FiveWords.{CanRun as CanRunAmongFive, FiveWords}
use Rattle.beet_five_auction.specs.FiveEndings.{FiveAuctionEnds, book_finish as finish_among_five}
use Rattle.beet_five_auction.specs.FiveEndings.{book_rounds as rounds_among_five}
use Rattle.beet_five_auction.specs.WorldEndings.{WorldEnds}
use Rattle.beet_server.specs.Endings.{Ending, Ends, Waits}
use Rattle.beet_auction.specs.Endings.{book_rounds}
use Rattle.beet_run.specs.OutcomeTexts.{outcome_text}
use Rattle.beet_errand.specs.Errands.{file_for}
use Rattle.beet_job_rehearse.specs.declared.standing.Standing.{Standing}
use Rattle.beet_job_rehearse.specs.declared.standing.Standing.TheVariants.{Waiting, Ended}
use Rattle.beet_auction_map.specs.ViewsWith.{transcript_with}
use Rattle.beet_headline.specs.Statements.{CanRun, OpensTheOutcome, are_spent}

-- whether the masks of five servers are spent, as those of three are
abbrev pub are_spent_among_five : Book → FiveWords → Bool
are_spent_among_five book words =
    is_spent (mask_among (of_five (at_server words.masks))) (length (path book.grid.prices (clearing_place book)))

-- the status and the text tell how the auction of a book ends: at 0 the masks are not spent, and the text is that of
-- the outcome of the plaintext auction; at 6 they are spent, and the text says so. Both tell after how many rounds
pub record TellsSo (spent_masks : Bool) (book : Book) (rounds status : ℕ) (text : List ℕ) : Type 0 where
  pub opened : status ≡ 0 →
      (spent_masks ≡ false) × (text ≡ outcome_text book.grid (finish_of (outcome_of book)) rounds)
  pub spent : status ≡ 6 → (spent_masks ≡ true) × (text ≡ outcome_text book.grid MasksSpent rounds)

-- so they tell the end of a run among three servers
abbrev pub TellsTheEnd : Book → Words → ℕ → List ℕ → Type 0
TellsTheEnd book words status text = TellsSo (are_spent book words) book (book_rounds book words.masks) status text

-- and of one among five
abbrev pub TellsOfFive : Book → FiveWords → ℕ → List ℕ → Type 0
TellsOfFive book words status text =
    TellsSo (are_spent_among_five book words) book (rounds_among_five book (at_server words.masks)) status text

-- a book of accepted bids, and words with which its auction can be run: whatever the order, the repeats and the delays
-- of the messages, a server that has ended has opened the outcome of the book, or the masks are spent
pub record ServersOpen (book : Book) (words : Words) : Type 0 where
  pub is_book : IsBook book
  pub can_run : CanRun book words
  pub opens : (es : List Triple) (s : Point) → OpensTheOutcome book words es s

-- a book of accepted bids, and words of five servers with which its auction can be run: the run on what its bidders
-- deal has these rounds and this end; and if a server of a world that began with it has ended, it has ended so,
-- whatever the order, the repeats and the delays of the messages
pub record FiveServersOpen (book : Book) (words : FiveWords) : Type 0 where
  pub is_book : IsBook book
  pub can_run : CanRunAmongFive book words
  pub ends : FiveAuctionEnds (five_over book.grid) (setup_of book words)
      (rounds_among_five book (at_server words.masks)) (finish_among_five book (at_server words.masks))
  pub opens : (es : List (Event ℕ)) (old new : List (Seen FiveAuction)) →
      AllFit five_batch (five_over book.grid) (setup_of book words) (rounds_among_five book (at_server words.masks))
      nothing old →
      LeadAll five_batch old es new →
      WorldEnds (rounds_among_five book (at_server words.masks)) (finish_among_five book (at_server words.masks))
      (after five (rounds_among_five book (at_server words.masks)) es) new

-- what servers 1, 2 and 3 have, each in its file
abbrev pub three_files : List ℕ → Trio (List ℕ) → List File
three_files out three =
    (file_for out One, three.one) ∷ (file_for out Two, three.two) ∷ (file_for out Three, three.three) ∷ []

-- their transcripts
abbrev pub transcript_files : List ℕ → Book → Words → List File
transcript_files out book words = three_files out (trio_of (transcript_with book words))

-- a server stands as it is shown: it waits in the same round, or it has ended with the same
abbrev pub IsShown : Ending Finish → Standing → Type 0
IsShown ending (Waiting round) = ending ≡ Waits round
IsShown ending (Ended finish) = ending ≡ Ends (Some finish)

-- What a server sees of a run of the auction on any points of the inputs is within the limits of a transcript.
use Rattle.std.proofs.Common.{◌≡◌, ◌<◌, ◌≤◌, ℕ, ◌*◌, List, [], length, All, IfSome, arith}
use Rattle.beet_field.specs.Field.{IsElement}
use Rattle.beet_field.specs.Trio.{member}
use Rattle.beet_field.specs.declared.point.Point.{Point}
use Rattle.beet_field.specs.declared.point.Point.TheVariants.{One, Two, Three}
use Rattle.beet_field.specs.declared.trio.Trio.{Trio}
use Rattle.beet_words.specs.Words.{IsWord}
use Rattle.beet_words.specs.declared.bundle.TheConstants.{MOST_BIDDERS}
use Rattle.beet_gates.proofs.EachFacts.{all-each, length-each}
use Rattle.beet_gates.specs.Scripts.{Standing, LawFrom, bounds_of, start_of}
use Rattle.beet_gates.specs.declared.Gates.{Gates}
use Rattle.beet_gates.specs.declared.Gates.TheVariants.{Chain, Tree}
use Rattle.beet_bids.specs.Grids.{Grid, IsGrid}
use Rattle.beet_bids.specs.declared.outcomes.Policy.{Policy}
use Rattle.beet_bids.specs.declared.grid.TheConstants.{MOST_PRICES}
use Rattle.beet_bids.proofs.GridFacts.{few_comparisons}
use Rattle.beet_plan.specs.Auction.{Auction, auction_over, most_rounds, most_wires, most_masks as most_dealt}
use Rattle.beet_plan.specs.Auction.{most_coefficients as most_drawn}
use Rattle.beet_plan.specs.Kept.{coefficients_kept, masks_kept, words_kept}
use Rattle.beet_plan.proofs.AuctionLaw.{auction-law}
use Rattle.beet_round.specs.Sides.{peer}
use Rattle.beet_round.specs.declared.sides.Side.TheVariants.{Low, High}
use Rattle.beet_sharing.proofs.Rounds.{lawful-rounds, rounds-within}
use Rattle.beet_sharing.specs.Runs.{Setup, message}
use Rattle.beet_sharing.specs.Seen.{round_seen}
use Rattle.beet_book.specs.declared.book_file.TheConstants.{MOST_PRODUCT}
use Rattle.beet_load.specs.Counts.{counts_of}
use Rattle.beet_load.specs.Servers.{AreCut, ServerWords}
use Rattle.beet_run.specs.Runs.{setup_with}
use Rattle.beet_view.specs.Transcripts.{AreNumbers, FitsFile, HasElements, HasNumbers, IsMessage}
use Rattle.beet_view.specs.Views.{IsSeenAt, IsView, Viewed}
use Rattle.beet_view.specs.declared.reading.TheConstants.{MOST_ROUNDS}
use Rattle.beet_view.specs.declared.view.Seen.{Seen}
use Rattle.beet_transcripts.proofs.ElementRuns.{message-elements}
use Rattle.beet_transcripts.specs.RunsOn.{rounds_on, view_on}

-- an auction has no more rounds than a transcript holds
rounds-few : (prices : ℕ) (gates : Gates) (policy : Policy) → prices ≤ MOST_PRICES →
    most_rounds (record { prices = prices; gates = gates; policy = policy }) ≤ MOST_ROUNDS
rounds-few prices Chain policy few = omega (arith, few_comparisons prices few)
rounds-few prices Tree policy few = omega (arith, few_comparisons prices few)

module _ (grid : Grid) (g : IsGrid grid) (inputs : Trio (List ℕ)) (words : Trio ServerWords)
    (long : (i : Point) → length (member inputs i) ≡ 2 * grid.prices) where
  abbrev auction : Auction
  auction = auction_over grid

  abbrev setup : Setup
  setup = setup_with grid inputs words

  abbrev bounds : Standing
  bounds = bounds_of (most_wires auction) (most_dealt auction) (most_drawn auction)

  law : LawFrom setup.next bounds (most_rounds auction) (start_of (2 * grid.prices)) []
  law = auction-law auction

  few-rounds : rounds_on grid inputs words ≤ MOST_ROUNDS
  few-rounds =
      let most = (lawful-rounds setup bounds (most_rounds auction) (2 * grid.prices) law).1 in
      let few = rounds-few grid.prices grid.gates grid.policy (omega (arith, g.prices_limit)) in
      omega (arith, most, few)

  message-fits : (from to : Point) (t : ℕ) → t < rounds_on grid inputs words → IsMessage (message setup from to t)
  message-fits from to t lt =
      let round = rounds-within setup bounds (most_rounds auction) (2 * grid.prices) law long t lt in
      let many = round.numbers from to in
      (omega (arith, many, round.some), omega (arith, many, round.few))

  few-masks : AreCut (counts_of grid) words → (s : Point) → length (member words s).masks ≤ masks_kept grid
  few-masks cut One = cut.one.masks
  few-masks cut Two = cut.two.masks
  few-masks cut Three = cut.three.masks

  few-coefficients : AreCut (counts_of grid) words → (s : Point) → length (member words s).coefficients ≤ coefficients_kept grid
  few-coefficients cut One = cut.one.coefficients
  few-coefficients cut Two = cut.two.coefficients
  few-coefficients cut Three = cut.three.coefficients

  -- with bidders as a server sees them
  module _ (s : Point) (bidders : List Seen) where
    abbrev view : Viewed
    view = view_on grid inputs words bidders s

    many : length view.rounds ≡ rounds_on grid inputs words
    many = length-each (round_seen setup s) (rounds_on grid inputs words)

    pub run-fits : AreCut (counts_of grid) words → length bidders * grid.prices ≤ MOST_PRODUCT →
        All (λ seen. IfSome seen.own (λ own. length own.1 ≤ words_kept grid.prices)) bidders → FitsFile view
    run-fits cut product few = record {
      product = product;
      words = few;
      masks = few-masks cut s;
      coefficients = few-coefficients cut s;
      rounds = omega (arith, many, few-rounds);
      messages = all-each (λ round. IsMessage round.0 × IsMessage round.1) (round_seen setup s) (rounds_on grid inputs words)
          (λ t lt. (message-fits (peer s Low) s t lt, message-fits (peer s High) s t lt));
    }

    pub run-is-view : length bidders ≤ MOST_BIDDERS → All (IsSeenAt s grid) bidders → IsView view
    run-is-view few all = record { few = few; seen = all; rounds = omega (arith, many, few-rounds) }

    pub run-numbers : ((i : Point) → All IsElement (member inputs i)) → All HasNumbers bidders → All IsWord (member words s).masks →
        All IsWord (member words s).coefficients → AreNumbers view
    run-numbers elements numbers masks coefficients = record {
      grid = g;
      bidders = numbers;
      masks = masks;
      coefficients = coefficients;
      rounds = all-each HasElements (round_seen setup s) (rounds_on grid inputs words)
          (λ t lt. record {
            lower = message-elements setup elements (peer s Low) s t;
            higher = message-elements setup elements (peer s High) s t;
          });
    }

-- What a core that fits the run of a book and has ended sees is what its server sees of the book's auction.
use Rattle.std.proofs.Common.{◌≡◌, ℕ, [], true, refl, sym, ap, ◌∙◌}
use Rattle.std.specs.Prelude.{unwrap_or}
use Rattle.beet_gates.specs.Each.{each}
use Rattle.beet_gates.proofs.EachFacts.{each-same}
use Rattle.beet_bids.specs.Books.{Book, IsBook}
use Rattle.beet_bids.specs.Outcomes.{clearing_place}
use Rattle.beet_delivery.specs.Networks.{Delivered}
use Rattle.beet_masking.specs.Blocks.{five_blocks}
use Rattle.beet_masking.specs.Masks.{mask_among}
use Rattle.beet_plan.specs.Runs.{run_rounds_with}
use Rattle.beet_weights.specs.Quadratics.{IsServer, of_five, servers}
use Rattle.beet_coalition.specs.Lists.{at_server}
use Rattle.beet_coalition.proofs.SumFacts.{five-lists}
use Rattle.beet_five_server.specs.Answers.{Core}
use Rattle.beet_five_server.specs.Cores.{has_ended}
use Rattle.beet_five_server.specs.Fits.{Fits}
use Rattle.beet_five_server.specs.Network.{sends_to}
use Rattle.beet_five_server.proofs.Passing.{ended-at}
use Rattle.beet_five_server.proofs.PassedRounds.{passed-received}
use Rattle.beet_plan.specs.FivePlan.{FiveAuction, five_batch}
use Rattle.beet_plan.proofs.FiveFacts.{book-ends}
use Rattle.beet_five_dealing.specs.FiveInputs.{rounds_of, setup_of}
use Rattle.beet_five_dealing.specs.FiveWords.{CanRun, FiveWords}
use Rattle.beet_five_dealing.proofs.Lists.{at-five}
use Rattle.beet_five_auction.specs.FiveEndings.{book_rounds}
use Rattle.beet_five_auction.proofs.Ends.{words-end}
use Rattle.beet_five_view.specs.CoreViews.{round_received, rounds_received, view_of_core}
use Rattle.beet_five_view.specs.JointBooks.{messages_to, view_at}
use Rattle.beet_five_view.proofs.Peers.{map-kept}

-- the rounds that the book and the mask words tell
rounds-told : (book : Book) (words : FiveWords) → IsBook book → CanRun book words →
    book_rounds book (at_server words.masks) ≡ rounds_of book words.masks
rounds-told book words is can =
    let five = can.are_words.masks.five in
    let lists : of_five (at_server words.masks) ≡ words.masks =
    five-lists words.masks (of_five (at_server words.masks)) five refl (λ j at. at-five (at_server words.masks) j at) in
    ap (λ lists. run_rounds_with five_blocks book.grid.policy book.grid.prices (mask_among lists) (clearing_place book)) lists
    ∙ sym (book-ends book words.masks is five can.are_words.masks.small).rounds

pub core-sees : (book : Book) (words : FiveWords) (x : Delivered ℕ) (c : Core FiveAuction) → IsBook book → CanRun book words →
    IsServer c.work.me → Fits five_batch (setup_of book words) x c.work c.mail → has_ended five_batch c.work ≡ true →
    view_of_core book words c ≡ view_at book words c.work.me
core-sees book words x c is can server f ended =
    let o = setup_of book words in
    let me = c.work.me in
    let ends = words-end book words is can in
    let count = (ended-at five_batch o x c.work c.mail (book_rounds book (at_server words.masks)) ends.has_rounds server f).0 ended
    ∙ rounds-told book words is can in
    let rounds : rounds_received c ≡ each (messages_to o me) (rounds_of book words.masks) =
    each-same (round_received c) (messages_to o me) c.work.round (λ t lt. map-kept _ _ (λ j. sends_to j me)
    (λ j may. ap (λ numbers. unwrap_or numbers []) (passed-received five_batch o x c.work c.mail f j t may lt)) servers)
    ∙ ap (each (messages_to o me)) count in
    λ j. record (view_at book words me) { rounds = rounds j }

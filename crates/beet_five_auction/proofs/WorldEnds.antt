-- How the servers of a world end the auction of a book.
use Rattle.std.proofs.Common.{◌≡◌, ◌<◌, ◌-◌, ◌^◌, ℕ, List, [], slice_index, slice_index_or, true, sym, ◌∙◌, subst, arith}
use Rattle.beet_bids.specs.Books.{Book, IsBook}
use Rattle.beet_bids.specs.Sums.{sums_of}
use Rattle.beet_delivery.specs.Networks.{Delivered, Triple, after, nothing}
use Rattle.beet_delivery.proofs.Undelivered.{passed_all}
use Rattle.beet_weights.specs.Quadratics.{IsServer, of_five}
use Rattle.beet_linear_sharing.specs.Polynomials.{AreShared}
use Rattle.beet_linear_sharing.specs.Runs.{Setup}
use Rattle.beet_linear_sharing.specs.Schemes.{five_servers}
use Rattle.beet_plan.specs.FivePlan.{FiveAuction, five_batch, five_over}
use Rattle.beet_five_server.specs.Cores.{has_ended}
use Rattle.beet_five_server.specs.Network.{five}
use Rattle.beet_five_server.proofs.Networking.{five-is}
use Rattle.beet_five_server.proofs.Passing.{ended-at, five-apart}
use Rattle.beet_five_world.specs.Members.{AllFit, IsAt, LeadAll, Seen}
use Rattle.beet_five_world.proofs.WorldFacts.{is-passed, led-all}
use Rattle.beet_five_auction.specs.FiveEndings.{book_finish, book_rounds}
use Rattle.beet_five_auction.specs.WorldEndings.{HasFinished, WorldEnds}
use Rattle.beet_five_auction.proofs.FiveCores.{opens-the-outcome}

module _ (book : Book) (o : Setup) (b : IsBook book) (few : (k i : ℕ) → slice_index (slice_index_or (of_five o.masks) k []) i < 2 ^ 61)
    (are : AreShared five_servers (sums_of book) o.inputs) where
  abbrev rounds : ℕ
  rounds = book_rounds book o.masks

  module _ (x : Delivered ℕ) (ms : List (Seen FiveAuction)) (f : AllFit five_batch (five_over book.grid) o rounds x ms) where
    finished : (s : ℕ) (m : Seen FiveAuction) → IsServer s → IsAt ms (s - 1) m → has_ended five_batch m.core.work ≡ true →
        HasFinished rounds (book_finish book o.masks) m.core.work
    finished s m server there ended =
        let at = f.stands s server m there in
        let e = opens-the-outcome o x m.core.work m.core.mail at.member.fits book b few at.runs are
        (subst IsServer (sym at.me) server) ended in
        record { ended = ended; finish_named = e.0; passed = e.1 }

    ends : WorldEnds rounds (book_finish book o.masks) x ms
    ends = record {
      once_ended = finished;
      near = λ s other m n mine theirs here there.
          let one = is-passed five_batch (five_over book.grid) o rounds x ms s m mine f here in
          let two = is-passed five_batch (five_over book.grid) o rounds x ms other n theirs f there in
          omega (arith, one, two, five-apart rounds x f.was s other mine theirs);
      all_ended = λ none s m server there.
          let at = f.stands s server m there in
          let all : m.core.work.round ≡ rounds =
          is-passed five_batch (five_over book.grid) o rounds x ms s m server f there ∙ passed_all five-is rounds x none s in
          finished s m server there
          ((ended-at five_batch o x m.core.work m.core.mail rounds f.has (subst IsServer (sym at.me) server) at.member.fits).1 all);
    }

  pub world-ends : (es : List (Triple ℕ)) (old new : List (Seen FiveAuction)) →
      AllFit five_batch (five_over book.grid) o rounds nothing old → LeadAll five_batch old es new →
      WorldEnds rounds (book_finish book o.masks) (after five rounds es) new
  world-ends es old new f lead =
      ends (after five rounds es) new (led-all five_batch (five_over book.grid) o rounds es old new nothing lead f)

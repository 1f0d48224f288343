use Rattle.std.proofs.Common.{ap, ◌∙◌, ℕ, List, map}
use Rattle.beet_book.specs.Farmers.{book_inputs, farmers_of}
use Rattle.beet_view.specs.BookViews.{seen_at}
use Rattle.beet_transcripts.proofs.running.make_ready.Goals as goal

pub returns-clause-seen : goal.returns-clause-seen
returns-clause-seen g c = λ s there.
    rw c.in_ok-dealt-2.ensures.0 (
    c.in_ok-dealt.ensures.seen s there
    ∙ ap (λ (x : List (List ℕ)). map (seen_at c.args.book.now.grid s) (farmers_of c.args.book.now.bidders x))
    (c.as_slice.ensures.value ∙ ap (λ w. w.bidders) c.words.view_is)
    )

pub returns-clause-inputs : goal.returns-clause-inputs
returns-clause-inputs g c =
    rw c.in_ok-dealt-2.ensures.0 (
    c.in_ok-dealt.ensures.inputs
    ∙ ap (λ (x : List (List ℕ)). book_inputs c.args.book.now.grid.prices (farmers_of c.args.book.now.bidders x))
    (c.as_slice.ensures.value ∙ ap (λ w. w.bidders) c.words.view_is)
    )

pub returns-clause-tapes : goal.returns-clause-tapes
returns-clause-tapes g c = rw c.auction_counts.ensures at (rw c.in_ok-dealt-2.ensures.1 at c.cut_three.ensures)

pub returns-clause-not_seen : goal.returns-clause-not_seen
returns-clause-not_seen g c = λ s none. rw c.in_ok-dealt-2.ensures.0 (c.in_ok-dealt.ensures.not_seen s none)

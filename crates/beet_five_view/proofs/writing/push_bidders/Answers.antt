use Rattle.std.proofs.Common.{◌<◌, ◌≤◌, ◌++◌, List, length, get_or, sym, ap, ◌∙◌, arith, take_all}
use Rattle.std.specs.List.{flat_map}
use Rattle.beet_bids.specs.Grids.{Grid}
use Rattle.beet_bids.specs.declared.book.Bidder.{Bidder}
use Rattle.beet_book.specs.Farmers.{BidderWithWords, farmers_of}
use Rattle.beet_view.specs.Transcripts.{seen_bytes}
use Rattle.beet_five_view.specs.JointBooks.{seen_at}
use Rattle.beet_five_view.proofs.More.{farmer-bytes-more, flat-map-map}
use Rattle.beet_five_view.proofs.writing.push_bidders.Goals as goal

pub loop-k-preserved : goal.loop-k-preserved
loop-k-preserved c =
    let book = c.args.book.now in
    let server = c.args.server in
    let k = c.loop-k.k in
    let bidder = c.index-bidders-k.result in
    let list = c.index-words-k.result in
    let farmer : BidderWithWords = record { bidder = bidder; words = list } in
    let is = c.bidders-bidders.ensures.value in
    let few = ap length is in
    let lt : k < length book.bidders = omega (arith, few, c.loop-k-test.true) in
    farmer-bytes-more (λ farmer. seen_bytes (seen_at book.grid.prices server farmer)) book.bidders c.args.words.now k bidder list
    c.args.file.now.items c.loop-k.file.items c.push_bidder.new.file.items c.requires lt
    (c.index-bidders-k.is ∙ ap (λ (l : List Bidder). get_or l k bidder) is) c.index-words-k.is c.loop-k.invariant
    (c.in_ok-push_bidder.ensures
    ∙ ap (λ (grid : Grid). c.loop-k.file.items ++ seen_bytes (seen_at grid.prices server farmer)) c.grid.ensures.value)

pub returns : goal.returns
returns c =
    let book = c.args.book.now in
    let words = c.args.words.now in
    let k = c.loop-k.k in
    let front = c.args.file.now.items in
    let few = ap length c.bidders-bidders.ensures.value in
    let past : length book.bidders ≤ k = omega (arith, few, c.loop-k-test.false) in
    let past' : length words ≤ k = omega (arith, past, c.requires) in
    let text = λ (farmer : BidderWithWords). seen_bytes (seen_at book.grid.prices c.args.server farmer) in
    c.loop-k.invariant
    ∙ (λ j. front ++ flat_map text (farmers_of (take_all k book.bidders past j) (take_all k words past' j)))
    ∙ ap (λ l. front ++ l) (sym (flat-map-map seen_bytes (seen_at book.grid.prices c.args.server) (farmers_of book.bidders words)))

use Rattle.std.proofs.Common.{◌≡◌, ◌++◌, take}
use Rattle.std.specs.List.{flat_map}
use Rattle.beet_book.specs.Farmers.{farmers_of}
use Rattle.beet_view.specs.Transcripts.{seen_bytes}
use Rattle.beet_five_view.specs.JointBooks.{seen_at}
use Rattle.beet_five_view.proofs.writing.push_bidders.Given as goal

abbrev pub invariant-loop-k : goal.invariant-loop-k
invariant-loop-k l =
    l.file.items ≡ l.fn.file.items ++ flat_map (λ farmer. seen_bytes (seen_at l.book.grid.prices l.server farmer))
    (farmers_of (take l.k l.book.bidders) (take l.k l.words))

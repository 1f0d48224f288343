-- What is kept of an auction among five servers is of what is read.
use Rattle.std.proofs.Common.{◌≡◌, ◌≤◌, ◌<◌, ℕ, List, All, length, refl, sym, ap}
use Rattle.std.proofs.lemmas.List.Elements.{All-map}
use Rattle.beet_words.specs.Words.{IsWord}
use Rattle.beet_words.specs.declared.bundle.TheConstants.{MOST_BIDDERS}
use Rattle.beet_bids.specs.Grids.{Grid}
use Rattle.beet_book.specs.Farmers.{BidderWithWords}
use Rattle.beet_book.specs.declared.entries.Entry.{Entry}
use Rattle.beet_five_dealing.specs.FiveTotals.{FiveTotals, five_inputs_of}
use Rattle.beet_load.specs.Servers.{ServerWords}
use Rattle.beet_five_load.specs.FiveDealing.{AreDealt}
use Rattle.beet_five_load.specs.FiveLoading.{IsFiveKeptOf, read_with}
use Rattle.beet_five_load.specs.FiveServers.{AreServing, ServerLists, lists_of}
use Rattle.beet_five_load.specs.FiveWants.{counts_of_five}
use Rattle.beet_five_load.proofs.Running.{can-run, farmers-again, makes-book}
use Rattle.beet_five_load.proofs.Serving.{serving-serves}

-- what is kept of an auction whose bidders are dealt
pub kept-of-five : (grid : Grid) (seeds : List (List ℕ)) (entries : List Entry) (lists : ServerLists) (servers : List ServerWords)
    (totals : FiveTotals) (farmers : List BidderWithWords) (inputs : List (List ℕ)) → length seeds ≡ 5 → length entries ≤ MOST_BIDDERS →
    AreServing (counts_of_five grid) seeds lists servers → AreDealt grid entries totals farmers → inputs ≡ five_inputs_of grid farmers →
    IsFiveKeptOf (record { grid = grid; masks = lists.masks; coefficients = lists.coefficients; inputs = inputs })
    (read_with grid (lists_of servers) farmers)
kept-of-five grid seeds entries lists servers totals farmers inputs five few a d e =
    let s = serving-serves grid seeds lists servers five a in
    let is = a.lists in
    let farmer = λ (k : ℕ) (x : BidderWithWords) (lt : k < length farmers). (d.each k x lt).is_farmer in
    let words = All-map (All IsWord) (λ (f : BidderWithWords). f.words) farmers (λ k x lt. (d.each k x lt).words) in
    record {
      grid = refl;
      masks = ap (λ (l : ServerLists). l.masks) (sym is);
      coefficients = ap (λ (l : ServerLists). l.coefficients) (sym is);
      book = makes-book (counts_of_five grid) grid farmers farmer (rw d.many few);
      runs = rw is at (can-run grid lists farmers s farmer words);
      few_masks = s.few_masks;
      few_coefficients = s.few_coefficients;
      inputs = rw (farmers-again farmers) e;
    }

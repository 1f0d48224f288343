-- The words that are read for a sale are enough, and no more than are kept.
use Rattle.std.proofs.Common.{◌≡◌, ℕ, List, map, length, sym, subst}
use Rattle.std.specs.Prelude.{All}
use Rattle.std.proofs.lemmas.List.{length-map, take_all}
use Rattle.beet_field.specs.declared.trio.Trio.{Trio}
use Rattle.beet_words.specs.Bundles.{Words}
use Rattle.beet_words.specs.Words.{accepted}
use Rattle.beet_masking.specs.Masks.{with_spare}
use Rattle.beet_trades.specs.Enough.{HasEnough, read_words}
use Rattle.beet_sale_file.specs.Sales.{SaleRecord}
use Rattle.beet_sale_file.specs.declared.rows.SaleRow.{SaleRow}
use Rattle.beet_sale_map.specs.Enough.{wants_of}
use Rattle.beet_load.specs.Servers.{AreCut, HaveEnough, ServerWords}
use Rattle.beet_load.specs.Wholes.{CanDeal, all_words}
use Rattle.beet_sale_load.specs.SaleLoading.{CanStart}
use Rattle.beet_sale_load.specs.SaleWants.{counts_of}
use Rattle.beet_words.proofs.WordLists.{lists-uncut}
use Rattle.beet_trades.proofs.EnoughFacts.{has-accepted}

module _ (n : ℕ) (servers : Trio ServerWords) (lists : List (List ℕ)) (enough : HaveEnough (counts_of n) servers)
    (cut : AreCut (counts_of n) servers) (count : length lists ≡ n) (deal : All (CanDeal (counts_of n)) lists) where
  abbrev words : Words
  words = all_words servers lists

  has-enough : HasEnough (wants_of n) n words
  has-enough = record {
    masks = (enough.one.masks, enough.two.masks, enough.three.masks);
    one = has-accepted _ servers.one.coefficients cut.one.coefficients enough.one.coefficients;
    two = has-accepted _ servers.two.coefficients cut.two.coefficients enough.two.coefficients;
    three = has-accepted _ servers.three.coefficients cut.three.coefficients enough.three.coefficients;
    count = count;
    bidders = λ k d lt. has-accepted 1 _ (deal k d lt).kept (deal k d lt).enough;
  }

  uncut-words : read_words (wants_of n) words ≡ words
  uncut-words =
      let m1 = take_all _ servers.one.masks cut.one.masks in
      let m2 = take_all _ servers.two.masks cut.two.masks in
      let m3 = take_all _ servers.three.masks cut.three.masks in
      let c1 = take_all _ servers.one.coefficients cut.one.coefficients in
      let c2 = take_all _ servers.two.coefficients cut.two.coefficients in
      let c3 = take_all _ servers.three.coefficients cut.three.coefficients in
      let all = lists-uncut (with_spare 1) lists (λ k d lt. (deal k d lt).kept) in
      λ i. record {
        masks = record { one = m1 i; two = m2 i; three = m3 i };
        coefficients = record { one = c1 i; two = c2 i; three = c3 i };
        bidders = all i;
      }

pub can-start : (sale : SaleRecord) (servers : Trio ServerWords) (lists : List (List ℕ)) (words : Words) →
    words ≡ all_words servers lists → HaveEnough (counts_of (length sale.rows)) servers → AreCut (counts_of (length sale.rows)) servers →
    length lists ≡ length sale.rows → All (CanDeal (counts_of (length sale.rows))) lists → CanStart (record { sale = sale; words = words })
can-start sale servers lists words is enough cut count deal =
    let n = length sale.rows in
    let long = length-map sale.rows (λ (row : SaleRow). row.bid) in
    rw is (record {
      enough = subst (λ k. HasEnough (wants_of k) k (all_words servers lists)) (sym long)
          (has-enough n servers lists enough cut count deal);
      cut = subst (λ k. read_words (wants_of k) (all_words servers lists) ≡ all_words servers lists) (sym long)
          (uncut-words n servers lists enough cut count deal);
    })

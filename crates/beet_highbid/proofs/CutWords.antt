-- Words that are no more than are read: what is written of them, and the words that are mapped from them.
use Rattle.std.proofs.Common.{◌≡◌, ◌+◌, ℕ, List, [], ◌∷◌, map, take, length, sym, ap, ◌∙◌, subst, arith}
use Rattle.std.proofs.lemmas.List.{length-map, length-take, take_all}
use Rattle.beet_field.specs.declared.point.Point.{Point}
use Rattle.beet_field.specs.declared.point.Point.TheVariants.{One, Two, Three}
use Rattle.beet_gates.specs.declared.Gates.{Gates}
use Rattle.beet_words.specs.Bundles.{Words}
use Rattle.beet_words.proofs.WordLists.{ones-long}
use Rattle.beet_sharing.specs.Seen.{SeenRun}
use Rattle.beet_mapped.specs.Dealers.{dealers_of}
use Rattle.beet_mapped.specs.Trades.{Trade, TradesMapped}
use Rattle.beet_mapped.proofs.DealerFacts.{lists-alike, lists-long}
use Rattle.beet_trades.specs.Enough.{Wants, read_words}
use Rattle.beet_map.proofs.Disagreeing.{as-many}
use Rattle.beet_sale_file.specs.declared.rows.SaleBid.{SaleBid}
use Rattle.beet_sale_map.specs.Bids.{HaveOneShape}
use Rattle.beet_sale_map.specs.Enough.{AreEnough, cut_words, wants_of}
use Rattle.beet_sale_map.specs.MappedSales.{SalesMapped, run_seen_of}
use Rattle.beet_sale_map.specs.Worlds.{party_of, trade_of}
use Rattle.beet_highbid.specs.SaleViews.{sale_bytes, sale_transcript, seen_bid}

-- what is written of words that are no more than are read is the transcript
pub transcript-read : (gates : Gates) (bids : List SaleBid) (words : Words) (s : Point) (run : SeenRun) →
    cut_words bids words ≡ words → run ≡ run_seen_of gates bids words s →
    sale_bytes (record {
      server = s;
      gates = gates;
      bids = map (seen_bid s) (dealers_of (map party_of bids) words.bidders);
      run = run;
    })
    ≡ sale_transcript gates bids words s
transcript-read gates bids words s run cut e =
    λ i. sale_bytes (record {
      server = s;
      gates = gates;
      bids = map (seen_bid s) (dealers_of (map party_of bids) (sym cut i).bidders);
      run = e i;
    })

-- a list that is as long as one that is not cut is not cut
as-kept : (n : ℕ) (xs ys : List ℕ) → length ys ≡ length xs → take n xs ≡ xs → take n ys ≡ ys
as-kept n xs ys same cut = take_all n ys (omega (arith, same, length-take n xs, ap length cut))

lists-kept : (n : ℕ) (xs ys : List (List ℕ)) → map (λ list. length list) ys ≡ map (λ list. length list) xs →
    map (take n) xs ≡ xs → map (take n) ys ≡ ys
lists-kept n [] [] same cut = λ i. []
lists-kept n [] (y ∷ ys) same cut = absurd (cc same)
lists-kept n (x ∷ xs) [] same cut = absurd (cc same)
lists-kept n (x ∷ xs) (y ∷ ys) same cut =
    let long : length y ≡ length x = cc same in
    let rest : map (λ list. length list) ys ≡ map (λ list. length list) xs = cc same in
    let front : take n x ≡ x = cc cut in
    let back : map (take n) xs ≡ xs = cc cut in
    let here = as-kept n x y long front in
    let there = lists-kept n xs ys rest back in
    λ i. here i ∷ there i

-- so words that are mapped from words that are not cut are not cut
trades-kept : (s : Point) (losses : List ℕ) (first second : Trade) (words words' : Words) (wants : Wants) →
    TradesMapped s losses first words second words' → length words.bidders ≡ length first.parties →
    length words'.bidders ≡ length second.parties → read_words wants words ≡ words → read_words wants words' ≡ words'
trades-kept s losses first second words words' wants m here there cut =
    let masks1 = as-kept wants.masks words.masks.one words'.masks.one (m.masks.lengths One) (ap (λ (w : Words). w.masks.one) cut) in
    let masks2 = as-kept wants.masks words.masks.two words'.masks.two (m.masks.lengths Two) (ap (λ (w : Words). w.masks.two) cut) in
    let masks3 = as-kept wants.masks words.masks.three words'.masks.three (m.masks.lengths Three) (ap (λ (w : Words). w.masks.three) cut) in
    let many : ℕ = wants.coefficients + 8 in
    let one = as-kept many words.coefficients.one words'.coefficients.one
    (ones-long words.coefficients.one words'.coefficients.one (m.places One)) (ap (λ (w : Words). w.coefficients.one) cut) in
    let two = as-kept many words.coefficients.two words'.coefficients.two
    (ones-long words.coefficients.two words'.coefficients.two (m.places Two)) (ap (λ (w : Words). w.coefficients.two) cut) in
    let three = as-kept many words.coefficients.three words'.coefficients.three
    (ones-long words.coefficients.three words'.coefficients.three (m.places Three)) (ap (λ (w : Words). w.coefficients.three) cut) in
    let alike = lists-alike s first.parties second.parties words.bidders words'.bidders here there m.dealers in
    let lists = lists-kept (wants.quantities + 8) words.bidders words'.bidders (lists-long words.bidders words'.bidders alike)
    (ap (λ (w : Words). w.bidders) cut) in
    λ i. record {
      masks = record { one = masks1 i; two = masks2 i; three = masks3 i };
      coefficients = record { one = one i; two = two i; three = three i };
      bidders = lists i;
    }

pub mapped-kept : (s : Point) (gates : Gates) (first second : List SaleBid) (words words' : Words) → HaveOneShape first second →
    AreEnough first words → SalesMapped s gates first words second words' → cut_words first words ≡ words →
    cut_words second words' ≡ words'
mapped-kept s gates first second words words' shape enough m cut =
    let many : length second ≡ length first = as-many (λ (b : SaleBid). b.known) first second shape in
    subst (λ n. read_words (wants_of n) words' ≡ words') (sym many)
    (trades-kept s _ (trade_of gates first) (trade_of gates second) words words' (wants_of (length first)) m.mapped
    (enough.count ∙ sym (length-map first party_of)) (m.enough.count ∙ sym (length-map second party_of)) cut)

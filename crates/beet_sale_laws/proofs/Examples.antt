-- Sales that agree for a server, and sales that do not.
use Rattle.std.proofs.Common.{◌≡◌, ◌+◌, ◌≢◌, ℕ, zero, suc, [], ◌∷◌, None, Some, slice_get, refl, sym, ap, ◌∙◌, arith}
use Rattle.std.proofs.lemmas.List.Elements.{All-cons, All-nil}
use Rattle.std.proofs.lemmas.Option.{same_Some}
use Rattle.beet_field.specs.declared.point.Point.{Point}
use Rattle.beet_sale_plan.specs.Outcome.{IsBid}
use Rattle.beet_sale_file.specs.declared.rows.SaleBid.{SaleBid}
use Rattle.beet_sale_map.specs.Bids.{Agree, AreSaleBids}
use Rattle.beet_highbid.specs.SalePairs.{DifferInTheWinningBid}
use Rattle.beet_sale_run.proofs.ResultFacts.{sells-so, told-sale}
use Rattle.beet_sale_laws.specs.Examples.{known_bids, three_bids, unknown}

are-bids : (one two three : ℕ) → IsBid one → IsBid two → IsBid three → AreSaleBids (three_bids one two three)
are-bids one two three a b c =
    let P : SaleBid → Type 0 = λ bid. IsBid bid.bid in
    record {
      size = record { some = omega arith; few = omega arith };
      limits = All-cons P (unknown one) (unknown two ∷ unknown three ∷ []) a
          (All-cons P (unknown two) (unknown three ∷ []) b (All-cons P (unknown three) [] c (All-nil P)));
    }

none-known : (s : Point) (one two three k : ℕ) (bid : SaleBid) → slice_get (three_bids one two three) k ≡ Some bid → bid.known ≢ Some s
none-known s one two three zero bid e known =
    let is : None ≡ Some s = ap (λ (b : SaleBid). b.known) (same_Some (unknown one) bid e) ∙ known in absurd cc
none-known s one two three (suc zero) bid e known =
    let is : None ≡ Some s = ap (λ (b : SaleBid). b.known) (same_Some (unknown two) bid e) ∙ known in absurd cc
none-known s one two three (suc (suc zero)) bid e known =
    let is : None ≡ Some s = ap (λ (b : SaleBid). b.known) (same_Some (unknown three) bid e) ∙ known in absurd cc
none-known s one two three (suc (suc (suc k))) bid e known = absurd cc

same-others : (one two two' three k : ℕ) (a b : SaleBid) → k + 1 ≢ 2 → slice_get (three_bids one two three) k ≡ Some a →
    slice_get (three_bids one two' three) k ≡ Some b → b.bid ≡ a.bid
same-others one two two' three zero a b ne e f =
    ap (λ (x : SaleBid). x.bid) (sym (same_Some (unknown one) b f) ∙ same_Some (unknown one) a e)
same-others one two two' three (suc zero) a b ne e f = absurd (ne refl)
same-others one two two' three (suc (suc zero)) a b ne e f =
    ap (λ (x : SaleBid). x.bid) (sym (same_Some (unknown three) b f) ∙ same_Some (unknown three) a e)
same-others one two two' three (suc (suc (suc k))) a b ne e f = absurd cc

-- the winning bid can be another
pub other-winning-bid : (s : Point) → DifferInTheWinningBid s (three_bids 700 900 800) (three_bids 700 950 800)
other-winning-bid s = record {
  first_bids = are-bids 700 900 800 (omega arith) (omega arith) (omega arith);
  second_bids = are-bids 700 950 800 (omega arith) (omega arith) (omega arith);
  shape = refl;
  winner = 2;
  price = 800;
  sold = sells-so (700 ∷ 900 ∷ 800 ∷ []) (omega arith);
  sold' = sells-so (700 ∷ 950 ∷ 800 ∷ []) (omega arith);
  unknown = λ bid e. none-known s 700 900 800 1 bid e;
  others = λ k a b ne e f. same-others 700 900 950 800 k a b ne e f;
}

-- but no other price, and no other winner
pub other-price : (s : Point) → Agree s (three_bids 700 900 800) (three_bids 700 900 801) → ⊥
other-price s agree =
    let r = agree.results in
    let here : 800 ≡ r.price = (told-sale (700 ∷ 900 ∷ 800 ∷ []) r.winner r.price r.sold).1 in
    let there : 801 ≡ r.price = (told-sale (700 ∷ 900 ∷ 801 ∷ []) r.winner r.price r.sold').1 in
    omega (arith, here, there)

pub other-winner : (s : Point) → Agree s (three_bids 700 900 800) (three_bids 900 700 800) → ⊥
other-winner s agree =
    let r = agree.results in
    let here : 2 ≡ r.winner = (told-sale (700 ∷ 900 ∷ 800 ∷ []) r.winner r.price r.sold).0 in
    let there : 1 ≡ r.winner = (told-sale (900 ∷ 700 ∷ 800 ∷ []) r.winner r.price r.sold').0 in
    omega (arith, here, there)

-- nor a bid that the server knows
pub known-winning-bid : (s : Point) → Agree s (known_bids s 700 900 800) (known_bids s 700 950 800) → ⊥
known-winning-bid s agree =
    let same : 950 ≡ 900 = agree.own 1 (record { known = Some s; bid = 900 }) (record { known = Some s; bid = 950 }) refl refl refl in
    omega (arith, same)

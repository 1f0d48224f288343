-- Sales that differ in the winner's bid alone, which a server does not know, agree for the server.
use Rattle.std.proofs.Common.{◌≡◌, ◌+◌, ◌-◌, List, Some, slice_get, inl, inr, arith, subst}
use Rattle.std.proofs.lemmas.Bool.{cases_eq}
use Rattle.beet_field.specs.declared.point.Point.{Point}
use Rattle.beet_sale_file.specs.declared.rows.SaleBid.{SaleBid}
use Rattle.beet_sale_map.specs.Bids.{AreTwoSales, SameOwn}
use Rattle.beet_highbid.specs.SalePairs.{DifferInTheWinningBid}

module _ (s : Point) (first second : List SaleBid) (differ : DifferInTheWinningBid s first second) where
  own-same : SameOwn s first second
  own-same k one other is_one is_other known = elim (cases_eq (k + 1) differ.winner) [
    | inl wins ↦
        let at : k ≡ differ.winner - 1 = omega (arith, wins) in
        absurd (differ.unknown one (subst (λ n. slice_get first n ≡ Some one) at is_one) known)
    | inr loses ↦ differ.others k one other loses is_one is_other
  ]

  pub two-sales : AreTwoSales s first second
  two-sales = record {
    first_bids = differ.first_bids;
    second_bids = differ.second_bids;
    agree = record {
      shape = differ.shape;
      own = own-same;
      results = record { winner = differ.winner; price = differ.price; sold = differ.sold; sold' = differ.sold' };
    };
  }

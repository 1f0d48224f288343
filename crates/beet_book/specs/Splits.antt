-- What can be dealt, can be dealt in two parts.
use Rattle.std.proofs.Common.{◌≡◌, ◌≤◌, ℕ, ◌+◌, ◌*◌, List, ◌++◌, length, min, arith, subst, length-append}
use Rattle.std.specs.Prelude.{All}
use Rattle.std.proofs.Math.Seq.{take-append_seam, drop-append_seam}
use Rattle.std.proofs.lemmas.List.Elements.{All-take, All-drop}
use Rattle.beet_words.specs.Tapes.{Tape, left_of}
use Rattle.beet_bids.specs.Curves.{Curve}
use Rattle.beet_bids.specs.Grids.{Grid}
use Rattle.beet_book.specs.Dealing.{CanDealPart}

pub deal-splits : (grid : Grid) (curves : List Curve) (from few rest : ℕ) (front back : List Tape) →
    length front ≡ min few (length (front ++ back)) → CanDealPart grid curves from (few + rest) (front ++ back) →
    CanDealPart grid curves from few front × CanDealPart grid curves (from + few) rest back
deal-splits grid curves from few rest front back least can =
    let sum : length (front ++ back) ≡ length front + length back = length-append front back in
    let front_length : length front ≡ few = omega (arith, least, can.paired) in
    let enough = λ (tape : Tape). 2 * grid.prices ≤ length (left_of tape) in (
      record {
        within = omega (arith, can.within);
        paired = front_length;
        of_grid = can.of_grid;
        words = subst (All enough) (take-append_seam front back)
            (All-take enough (length front) (front ++ back) can.words);
      },
      record {
        within = omega (arith, can.within);
        paired = omega (arith, front_length, sum, can.paired);
        of_grid = can.of_grid;
        words = subst (All enough) (drop-append_seam front back)
            (All-drop enough (length front) (front ++ back) can.words);
      },
    )

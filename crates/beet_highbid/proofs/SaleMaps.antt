-- What holds of the gates and the bids that are handed over holds of those of two sales.
use Rattle.std.proofs.Common.{◌≡◌, List, subst}
use Rattle.beet_gates.specs.declared.Gates.{Gates}
use Rattle.beet_sale_file.specs.declared.rows.SaleBid.{SaleBid}

pub of-sales : (P : Gates → List SaleBid → List SaleBid → Type 0) {gates gates' : Gates} {one one' other other' : List SaleBid} →
    gates ≡ gates' → one ≡ one' → other ≡ other' → P gates one other → P gates' one' other'
of-sales P {gates = gates} {gates' = gates'} {one = one} {one' = one'} {other = other} {other' = other'} g f s h =
    subst (λ (x : Gates). P x one' other') g
    (subst (λ (x : List SaleBid). P gates x other') f (subst (λ (x : List SaleBid). P gates one x) s h))

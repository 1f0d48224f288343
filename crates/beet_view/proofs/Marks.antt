-- The server that a mark names.
use Rattle.std.proofs.Common.{◌≡◌, true, true≢false, Option, Some, None, sym, ap, ◌∙◌}
use Rattle.beet_field.specs.declared.point.Point.{Point}
use Rattle.beet_delivery.proofs.ThreeServers.{same_is, same_self}
use Rattle.beet_view.specs.BookViews.{names}

pub names-is : (known : Option Point) (s : Point) → names known s ≡ true → known ≡ Some s
names-is None s e = absurd (true≢false (sym e))
names-is (Some at) s e = ap Some (same_is at s e)

pub names-own : (known : Option Point) (s : Point) → known ≡ Some s → names known s ≡ true
names-own known s e = ap (λ k. names k s) e ∙ same_self s

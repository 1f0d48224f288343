use Rattle.std.proofs.Common.{rules, refl, IsTrue}
use Rattle.beet_field.specs.declared.point.Point.TheVariants.{One, Two, Three}
use Rattle.beet_audit.proofs.knowing.check_known.Goals as goal
use Rattle.beet_audit.proofs.knowing.check_known.Goals.{else-one-via-then-one+then-two+else-three}
use Rattle.beet_audit.proofs.knowing.check_known.Goals.{else-one-via-then-one+else-two, else-one-via-else-one}

pub knows-requires-clause-bidder : goal.knows-requires-clause-bidder
knows-requires-clause-bidder c = c.requires.bidder.there One

pub knows-requires-clause-prices : goal.knows-requires-clause-prices
knows-requires-clause-prices c = c.requires.bidder.over One

pub knows-requires-2-clause-bidder : goal.knows-requires-2-clause-bidder
knows-requires-2-clause-bidder c = c.requires.bidder.there Two

pub knows-requires-2-clause-prices : goal.knows-requires-2-clause-prices
knows-requires-2-clause-prices c = c.requires.bidder.over Two

pub knows-requires-3-clause-bidder : goal.knows-requires-3-clause-bidder
knows-requires-3-clause-bidder c = c.requires.bidder.there Three

pub knows-requires-3-clause-prices : goal.knows-requires-3-clause-prices
knows-requires-3-clause-prices c = c.requires.bidder.over Three

pub returns-else-one : goal.returns-else-one
returns-else-one c = λ ne. (
  λ all.
      elim c.else-one.branch [
        | else-one-via-then-one+then-two+else-three w ↦
            let is : IsTrue c.in_ok-three.three = c.in_ok-three.ensures.1 (all Three) in
            let other = w.if-three.false in
            search rules
        | else-one-via-then-one+else-two w ↦
            let is : IsTrue c.in_ok-two.two = c.in_ok-two.ensures.1 (all Two) in
            let other = w.if-two.false in
            search rules
        | else-one-via-else-one w ↦
            let is : IsTrue c.in_ok-one.one = c.in_ok-one.ensures.1 (all One) in
            let other = w.if-one.false in
            search rules
      ],
  refl,
)

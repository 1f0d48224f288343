-- What a verdict says of a message whose side is known.
use Rattle.std.proofs.Common.{◌≡◌, inl, inr, sym, ◌∙◌, subst}
use Rattle.beet_field.specs.declared.point.Point.{Point}
use Rattle.beet_round.specs.declared.sides.Side.{Side}
use Rattle.beet_round.specs.declared.message.RoundMessage.{RoundMessage}
use Rattle.beet_round.specs.declared.mailbox.Verdict.{Verdict}
use Rattle.beet_round.specs.declared.mailbox.Verdict.TheVariants.{Stored, Ready, Repeat, Old, TooEarly, WrongLength, Stranger}
use Rattle.beet_round.specs.Sides.{peer}
use Rattle.beet_round.specs.Boxes.{Mailbox, Judged, JudgedFrom, IsStranger}
use Rattle.beet_round.proofs.SideFacts.{peer-apart, peer-one}

no-stranger : (me : Point) (m : RoundMessage) (s : Side) → m.to ≡ me → m.from ≡ peer me s → IsStranger me m → ⊥
no-stranger me m s to from (inl other) = other to
no-stranger me m s to from (inr own) = peer-apart me s (sym from ∙ own)

moved : (old new : Mailbox) (m : RoundMessage) (s t : Side) (v : Verdict) → m.from ≡ peer old.me s → m.from ≡ peer old.me t →
    JudgedFrom old new t m v → JudgedFrom old new s m v
moved old new m s t v from sender judged =
    subst (λ side. JudgedFrom old new side m v) (peer-one old.me t s (sym sender ∙ from)) judged

pub judged-from : (old new : Mailbox) (m : RoundMessage) (s : Side) (v : Verdict) → m.to ≡ old.me → m.from ≡ peer old.me s →
    Judged old new m v → JudgedFrom old new s m v
judged-from old new m s Stranger to from judged = absurd (no-stranger old.me m s to from judged.0)
judged-from old new m s Old to from judged = moved old new m s judged.0 Old from judged.2 judged.3
judged-from old new m s (TooEarly t) to from judged = moved old new m s judged.0 (TooEarly t) from judged.2 judged.3
judged-from old new m s Repeat to from judged = moved old new m s judged.0 Repeat from judged.2 judged.3
judged-from old new m s (WrongLength n) to from judged = moved old new m s judged.0 (WrongLength n) from judged.2 judged.3
judged-from old new m s Ready to from judged = moved old new m s judged.0 Ready from judged.2 judged.3
judged-from old new m s Stored to from judged = moved old new m s judged.0 Stored from judged.2 judged.3

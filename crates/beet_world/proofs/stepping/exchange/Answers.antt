use Rattle.std.proofs.Common.{◌≡◌, ℕ, ◌+◌, List}
use Rattle.beet_field.specs.Trio.{member}
use Rattle.beet_field.specs.declared.point.Point.{Point}
use Rattle.beet_field.specs.declared.point.Point.TheVariants.{One, Two, Three}
use Rattle.beet_field.specs.declared.trio.Trio.{Trio}
use Rattle.beet_server.specs.Cores.{Core}
use Rattle.beet_delivery.specs.Events.{all_delivered}
use Rattle.beet_gates.specs.declared.Batch.{Batch}
use Rattle.beet_round.specs.Sides.{peer}
use Rattle.beet_round.specs.declared.message.RoundMessage.{RoundMessage}
use Rattle.beet_round.specs.declared.sides.Side.TheVariants.{Low, High}
use Rattle.beet_server.specs.Fits.{IsRound, message_of}
use Rattle.beet_sharing.specs.Runs.{Setup}
use Rattle.beet_server.specs.Lockstep.{AreAtRound, HasHanded, IsAtRound, MayTake}
use Rattle.beet_server.proofs.Rounds.{by_point, hands-out, loud-then, sent-high, sent-low}
use Rattle.beet_world.proofs.stepping.exchange.Given.{Over}
use Rattle.beet_world.proofs.stepping.exchange.Goals.{After-hand_out-3}
use Rattle.beet_world.proofs.stepping.exchange.Goals as goal

pub hand_out-requires : goal.hand_out-requires
hand_out-requires g c =
    let r = c.requires in loud-then g.S.Script.batch_of r.o r.t One c.args.cores.now.one (r.stand One) r.is_round

pub hand_out-requires-2 : goal.hand_out-requires-2
hand_out-requires-2 g c =
    let r = c.requires in loud-then g.S.Script.batch_of r.o r.t Two c.args.cores.now.two (r.stand Two) r.is_round

pub hand_out-requires-3 : goal.hand_out-requires-3
hand_out-requires-3 g c =
    let r = c.requires in loud-then g.S.Script.batch_of r.o r.t Three c.args.cores.now.three (r.stand Three) r.is_round

-- what each server may take, once all three have handed out their messages
module _ (g : Over) (c : After-hand_out-3 g) (o : Setup) (t : ℕ) (is : IsRound o t)
    (stand : AreAtRound g.S.Script.batch_of o t c.args.cores.now) where
  abbrev next : g.row.S.Denot → ℕ → List ℕ → Batch
  next = g.S.Script.batch_of

  -- a server that has handed out its messages may take both that came to it
  may : (s : Point) {core : Core g.row.S.Denot} {low high : RoundMessage} → HasHanded next o t (all_delivered t) s core →
      low ≡ message_of o (peer s Low) s t → high ≡ message_of o (peer s High) s t → MayTake next core low high
  may s waits is_low is_high = record { o = o; t = t; s = s; is_round = is; waits = waits; is_low = is_low; is_high = is_high }

  may-one : MayTake next c.hand_out.new.self c.hand_out-2.new.low c.hand_out-3.new.low
  may-one =
      may One (hands-out next o t One _ _ (stand One) (c.hand_out.ensures.fits o (all_delivered t) (stand One).fits)
      c.hand_out.ensures.keeps.me c.hand_out.ensures.moves)
      (sent-low next o t Two _ _ _ (stand Two) (c.hand_out-2.ensures.messages o (all_delivered t) (stand Two).fits))
      (sent-low next o t Three _ _ _ (stand Three) (c.hand_out-3.ensures.messages o (all_delivered t) (stand Three).fits))

  may-two : MayTake next c.hand_out-2.new.self c.hand_out.new.low c.hand_out-3.new.high
  may-two =
      may Two (hands-out next o t Two _ _ (stand Two) (c.hand_out-2.ensures.fits o (all_delivered t) (stand Two).fits)
      c.hand_out-2.ensures.keeps.me c.hand_out-2.ensures.moves)
      (sent-low next o t One _ _ _ (stand One) (c.hand_out.ensures.messages o (all_delivered t) (stand One).fits))
      (sent-high next o t Three _ _ _ (stand Three) (c.hand_out-3.ensures.messages o (all_delivered t) (stand Three).fits))

  may-three : MayTake next c.hand_out-3.new.self c.hand_out.new.high c.hand_out-2.new.high
  may-three =
      may Three (hands-out next o t Three _ _ (stand Three) (c.hand_out-3.ensures.fits o (all_delivered t) (stand Three).fits)
      c.hand_out-3.ensures.keeps.me c.hand_out-3.ensures.moves)
      (sent-high next o t One _ _ _ (stand One) (c.hand_out.ensures.messages o (all_delivered t) (stand One).fits))
      (sent-high next o t Two _ _ _ (stand Two) (c.hand_out-2.ensures.messages o (all_delivered t) (stand Two).fits))

pub take_both-requires : goal.take_both-requires
take_both-requires g c =
    let r = c.requires in may-one g (goal.at.take_both-requires g c).After-hand_out-3 r.o r.t r.is_round r.stand

pub take_both-requires-2 : goal.take_both-requires-2
take_both-requires-2 g c =
    let r = c.requires in may-two g (goal.at.take_both-requires-2 g c).After-hand_out-3 r.o r.t r.is_round r.stand

pub take_both-requires-3 : goal.take_both-requires-3
take_both-requires-3 g c =
    let r = c.requires in may-three g (goal.at.take_both-requires-3 g c).After-hand_out-3 r.o r.t r.is_round r.stand

pub returns-clause-passed : goal.returns-clause-passed
unfolding may may-one may-two may-three
returns-clause-passed g c = λ o t is stand.
    let sent = (goal.at.returns-clause-passed g c).After-hand_out-3 in
    let one = may-one g sent o t is stand in
    let two = may-two g sent o t is stand in
    let three = may-three g sent o t is stand in
    let new : Trio (Core g.row.S.Denot) =
    record { one = c.take_both.new.core; two = c.take_both-2.new.core; three = c.take_both-3.new.core } in
    by_point (λ s. IsAtRound g.S.Script.batch_of o (t + 1) s (member new s))
    (c.take_both.ensures.passed o t One is one.waits one.is_low one.is_high)
    (c.take_both-2.ensures.passed o t Two is two.waits two.is_low two.is_high)
    (c.take_both-3.ensures.passed o t Three is three.waits three.is_low three.is_high)

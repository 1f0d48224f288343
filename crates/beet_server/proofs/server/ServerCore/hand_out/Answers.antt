use Rattle.std.proofs.Common.{◌≡◌, ◌<◌, ◌∷◌, [], inl, inr, ap, subst, ◌∙◌}
use Rattle.beet_delivery.specs.Events.{Delivered}
use Rattle.beet_round.specs.Sides.{peer}
use Rattle.beet_round.specs.declared.sides.Side.TheVariants.{Low, High}
use Rattle.beet_sharing.specs.Runs.{Setup}
use Rattle.beet_server.specs.Answers.{HandsOut}
use Rattle.beet_server.specs.Cores.{Core, has_ended}
use Rattle.beet_server.specs.Fits.{Fits}
use Rattle.beet_server.specs.Lockstep.{AreSent}
use Rattle.beet_server.specs.Steps.{core_of, messages_out, moved_on}
use Rattle.beet_server.proofs.Delivering.{after-out, handed-messages, keeps-after, moves-after, not-handed}
use Rattle.beet_server.proofs.server.ServerCore.hand_out.Given.{Over}
use Rattle.beet_server.proofs.server.ServerCore.hand_out.Goals.{After-address-2}
use Rattle.beet_server.proofs.server.ServerCore.hand_out.Goals as goal

-- what was handed out is what the core sends
hands : (g : Over) (c : After-address-2 g) →
    c.address.new.message ∷ c.address-2.new.message ∷ [] ≡ messages_out g.S.Script.batch_of c.args.self.now
hands g c =
    let next = g.S.Script.batch_of in
    subst (λ (v : Core g.row.S.Denot). c.address.new.message ∷ c.address-2.new.message ∷ [] ≡ messages_out next v) c.self.view_is
    (λ i. (c.address.ensures ∙ (λ j. record {
      from = c.me-me.ensures j;
      to = peer (c.me-me.ensures j) Low;
      round = c.round-round.ensures j;
      numbers = record { items = c.hand_out.ensures.low j };
    })) i
    ∷ (c.address-2.ensures ∙ (λ j. record {
      from = c.me-me.ensures j;
      to = peer (c.me-me.ensures j) High;
      round = c.round-round.ensures j;
      numbers = record { items = c.hand_out.ensures.high j };
    })) i
    ∷ [])

-- of a core that fits a run these are the run's messages
sent : (g : Over) (c : After-address-2 g) (o : Setup) (x : Delivered) → Fits g.S.Script.batch_of o x c.args.self.now →
    AreSent o c.args.self.now.me c.args.self.now.round c.address.new.message c.address-2.new.message
sent g c o x fits =
    let next = g.S.Script.batch_of in
    let both = not-handed c.args.self.now.handed (has_ended next c.args.self.now) c.requires in
    let is = hands g c ∙ handed-messages next c.args.self.now o x fits both.0 in
    record { to_low = cc is; to_high = cc is }

-- the round is one of the script's
within : (g : Over) (c : After-address-2 g) → c.args.self.now.round < g.S.Script.rounds_of c.args.self.now.script
within g c = subst (λ (v : Core g.row.S.Denot). v.round < g.S.Script.rounds_of v.script) c.self.view_is c.hand_out.ensures.within

pub returns-then-ready : goal.returns-then-ready
returns-then-ready g c =
    let next = g.S.Script.batch_of in
    let after = (goal.at.returns-then-ready g c).After-address-2 in
    let both = not-handed c.args.self.now.handed (has_ended next c.args.self.now) c.requires in
    let new = core_of c.hand_out.new.self c.self.inside.received.messages c.self.inside.mail in
    let is = ap (λ e. core_of e c.self.inside.received.messages c.self.inside.mail) c.hand_out.ensures.work in
    let leaves : HandsOut next c.args.self.now c.turn.new.self =
    rw c.turn.ensures (subst (λ (v : Core g.row.S.Denot). HandsOut next v (moved_on next new)) c.self.view_is
    (inl (c.ready-ready.ensures.0 c.if-ready.true, ap (moved_on next) is))) in
    record {
      keeps = keeps-after next c.args.self.now _ leaves;
      moves = moves-after next c.args.self.now _ leaves;
      within = within g after;
      hands = hands g after;
      leaves = leaves;
      fits = λ o x. after-out next c.args.self.now _ o x both.0 both.1 leaves;
      messages = sent g after;
    }

pub returns-else-ready : goal.returns-else-ready
returns-else-ready g c =
    let next = g.S.Script.batch_of in
    let after = (goal.at.returns-else-ready g c).After-address-2 in
    let both = not-handed c.args.self.now.handed (has_ended next c.args.self.now) c.requires in
    let new = core_of c.hand_out.new.self c.self.inside.received.messages c.self.inside.mail in
    let is = ap (λ e. core_of e c.self.inside.received.messages c.self.inside.mail) c.hand_out.ensures.work in
    let leaves : HandsOut next c.args.self.now new =
    subst (λ (v : Core g.row.S.Denot). HandsOut next v new) c.self.view_is
    (inr (λ h. cc (c.ready-ready.ensures.1 h, c.if-ready.false), is)) in
    record {
      keeps = keeps-after next c.args.self.now _ leaves;
      moves = moves-after next c.args.self.now _ leaves;
      within = within g after;
      hands = hands g after;
      leaves = leaves;
      fits = λ o x. after-out next c.args.self.now _ o x both.0 both.1 leaves;
      messages = sent g after;
    }

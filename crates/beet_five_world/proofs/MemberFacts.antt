-- What a server of a world keeps.
use Rattle.std.proofs.Common.{◌≡◌, ◌≢◌, ◌≤◌, ◌+◌, ◌*◌, ◌++◌, ◌∷◌, [], ℕ, true, false, true≢false, List, length, sym, refl, ap, subst, ◌∙◌}
use Rattle.std.proofs.Common.{inl, inr, arith, length-append}
use Rattle.std.specs.Prelude.{if◌then◌else◌}
use Rattle.std.proofs.lemmas.Bool.{both_ways, cases_Bool, or_left}
use Rattle.beet_delivery.specs.Networks.{Delivered}
use Rattle.beet_gates.specs.Each.{each}
use Rattle.beet_gates.specs.declared.Batch.{Batch}
use Rattle.beet_gates.proofs.EachFacts.{each-more}
use Rattle.beet_weights.specs.Quadratics.{IsServer}
use Rattle.beet_round.specs.declared.mailbox.Verdict.{Verdict}
use Rattle.beet_round.specs.declared.mailbox.Verdict.TheVariants.{Ready, Stored, Repeat, Old, TooEarly, WrongLength, Stranger}
use Rattle.beet_linear_sharing.specs.Runs.{Setup}
use Rattle.beet_five_server.specs.Answers.{Answers, Core, HandsOut, handed_out, late_verdict}
use Rattle.beet_five_server.specs.Cores.{Work, has_ended, is_quiet}
use Rattle.beet_five_server.specs.Fits.{Fits, messages_from, taken}
use Rattle.beet_five_server.specs.Mails.{verdict_of}
use Rattle.beet_five_server.specs.Network.{sends_to}
use Rattle.beet_five_server.specs.declared.mail.FiveMessage.{FiveMessage}
use Rattle.beet_five_server.proofs.Peers.{five-heard, some-peer}
use Rattle.beet_five_server.proofs.Standing.{all-delivered, hands-out}
use Rattle.beet_five_world.specs.Members.{IsKept, IsMember, handed_rounds, verdict_at}
use Rattle.beet_server.proofs.Delivering.{handed-first, not-handed}

-- how far a core is once it has handed out: one round's messages more
pub record Steps {S : Type 0} (c d : Core S) : Type 0 where
  pub me : d.work.me ≡ c.work.me
  pub script : d.work.script ≡ c.work.script
  pub more : handed_rounds d ≡ handed_rounds c + 1

module _ {S : Type 0} (next : S → ℕ → List ℕ → Batch) where
  handed-steps : (c : Core S) → c.work.handed ≡ false → Steps c (handed_out next c)
  handed-steps c h = record { me = refl; script = refl; more = rw h (omega arith) }

  pub steps-out : (c d : Core S) → is_quiet next c.work ≡ false → HandsOut next c d → Steps c d
  steps-out c d quiet (inl (all, moves)) =
      let h = (not-handed c.work.handed (has_ended next c.work) quiet).0 in
      record {
        me = ap (λ (w : Work S). w.me) moves.work;
        script = ap (λ (w : Work S). w.script) moves.work;
        more = ap (λ (w : Work S). taken w.round w.handed) moves.work ∙ rw h refl;
      }
  steps-out c d quiet (inr (some, is)) =
      let h = (not-handed c.work.handed (has_ended next c.work) quiet).0 in
      let s = handed-steps c h in
      record {
        me = ap (λ (k : Core S). k.work.me) is;
        script = ap (λ (k : Core S). k.work.script) is;
        more = ap (λ (k : Core S). handed_rounds k) is ∙ s.more;
      }

  pub quiet-rounds : (c : Core S) → is_quiet next c.work ≡ false → handed_rounds c ≡ c.work.round
  quiet-rounds c quiet = rw (not-handed c.work.handed (has_ended next c.work) quiet).0 refl

  pub kept-out : (rounds room : ℕ) (c d : Core S) (sent : List (List FiveMessage)) (m : List FiveMessage) → is_quiet next c.work ≡ false →
      HandsOut next c d →
      IsKept next rounds room c (length sent) → IsKept next rounds room d (length (sent ++ m ∷ []))
  kept-out rounds room c d sent m quiet leaves k =
      let s = steps-out c d quiet leaves in
      record {
        server = subst IsServer (sym s.me) k.server;
        counted = omega (arith, length-append sent (m ∷ []), k.counted, s.more);
        fit = k.fit;
      }

  -- a core that has handed out has not ended
  goes-out : (c d : Core S) → is_quiet next c.work ≡ false → HandsOut next c d → d.work.handed ≡ true → has_ended next d.work ≡ false
  goes-out c d quiet (inl (all, moves)) h = absurd (true≢false (sym h ∙ ap (λ (w : Work S). w.handed) moves.work))
  goes-out c d quiet (inr (some, is)) h = ap (λ (k : Core S). has_ended next k.work) is
      ∙ (not-handed c.work.handed (has_ended next c.work) quiet).1

  pub member-out : (o : Setup) (x : Delivered ℕ) (c d : Core S) (sent : List (List FiveMessage)) (m : List FiveMessage) →
      is_quiet next c.work ≡ false →
      HandsOut next c d → Fits next o x d.work d.mail → m ≡ messages_from o c.work.me c.work.round → IsMember next o x c sent →
      IsMember next o x d (sent ++ m ∷ [])
  member-out o x c d sent m quiet leaves fits is k =
      let s = steps-out c d quiet leaves in
      let at = quiet-rounds c quiet in
      record {
        fits = fits;
        messages =
            (λ i. k.messages i ++ (is ∙ ap (messages_from o c.work.me) (sym at)) i ∷ [])
            ∙ sym (each-more (messages_from o c.work.me) (handed_rounds c))
            ∙ (λ i. each (messages_from o (sym s.me i)) (sym s.more i));
        goes = goes-out c d quiet leaves;
      }

  -- a delivery leaves as many rounds' messages handed out
  pub same-rounds : (c d : Core S) (m : FiveMessage) (v : Verdict) → is_quiet next c.work ≡ true → has_ended next c.work ≡ false →
      Answers next c d m v →
      (d.work.me ≡ c.work.me) × (d.work.script ≡ c.work.script) × (handed_rounds d ≡ handed_rounds c)
  same-rounds c d m v quiet goes a = by_verdict v refl where
    stay : v ≢ Ready → (d.work.me ≡ c.work.me) × (d.work.script ≡ c.work.script) × (handed_rounds d ≡ handed_rounds c)
    stay other = (
      ap (λ (k : Core S). k.work.me) (a.waits other),
      ap (λ (k : Core S). k.work.script) (a.waits other),
      ap
          (λ (k : Core S). handed_rounds k) (a.waits other),
    )

    by_verdict : (u : Verdict) → v ≡ u → (d.work.me ≡ c.work.me) × (d.work.script ≡ c.work.script) × (handed_rounds d ≡ handed_rounds c)
    by_verdict Ready e =
        let moves = a.passes e in
        let h = handed-first c.work.handed (has_ended next c.work) quiet goes in (
          ap (λ (w : Work S). w.me) moves.work,
          ap (λ (w : Work S). w.script) moves.work,
          ap (λ (w : Work S). taken w.round w.handed) moves.work ∙ rw h (omega arith),
        )
    by_verdict Stored e = stay (λ r. cc (e, r))
    by_verdict Repeat e = stay (λ r. cc (e, r))
    by_verdict Old e = stay (λ r. cc (e, r))
    by_verdict (TooEarly n) e = stay (λ r. cc (e, r))
    by_verdict (WrongLength n) e = stay (λ r. cc (e, r))
    by_verdict Stranger e = stay (λ r. cc (e, r))

  -- a core that hands out twice with nothing delivered in between is quiet then
  pub twice : (o : Setup) (x : Delivered ℕ) (c d e : Core S) → IsServer c.work.me → Fits next o x c.work c.mail →
      is_quiet next c.work ≡ false → HandsOut next c d →
      5 * (d.work.round + 2) ≤ length d.mail.places → Fits next o x d.work d.mail → is_quiet next d.work ≡ false → HandsOut next d e →
      is_quiet next e.work ≡ true
  twice o x c d e server f before (inr (some, is)) room g still leaves =
      absurd (both_ways (is_quiet next d.work) still (or_left _ _ (ap (λ (k : Core S). k.work.handed) is)))
  twice o x c d e server f before (inl moves) room g still (inr (some, is)) = or_left _ _ (ap (λ (k : Core S). k.work.handed) is)
  twice o x c d e server f before (inl (first, moves)) room g still (inl (all, more)) =
      let h = (not-handed c.work.handed (has_ended next c.work) before).0 in
      let k = (not-handed d.work.handed (has_ended next d.work) still).0 in
      let me : d.work.me ≡ c.work.me = ap (λ (w : Work S). w.me) moves.work in
      let round : d.work.round ≡ c.work.round + 1 = ap (λ (w : Work S). w.round) moves.work in
      let mine : IsServer d.work.me = subst IsServer (sym me) server in
      let peer = some-peer d.work.me mine in
      let there = five-heard x d.work.me d.work.round
      (all-delivered next o x (handed_out next d).work (handed_out next d).mail mine
      (hands-out next o x d.work d.mail mine g.stands k room) all) peer.0 peer.1 in
      let soon = (f.soon peer.0 (subst (λ i. sends_to peer.0 i ≡ true) me peer.1) d.work.round
      (subst (λ i. x peer.0 i d.work.round ≡ true) me there)).0 in
      let low = rw h at soon in
      absurd (omega (arith, low, round))

  pub quiet-after : (o : Setup) (x : Delivered ℕ) (c d e : Core S) → IsServer c.work.me → Fits next o x c.work c.mail →
      Fits next o x d.work d.mail →
      (is_quiet next c.work ≡ true → d ≡ c) → (is_quiet next c.work ≡ false → HandsOut next c d) →
      (is_quiet next d.work ≡ true → e ≡ d) →
      (is_quiet next d.work ≡ false → HandsOut next d e × (5 * (d.work.round + 2) ≤ length d.mail.places)) →
      is_quiet next e.work ≡ true
  quiet-after o x c d e server f g same moves again more = elim (cases_Bool (is_quiet next d.work)) [
    | inl quiet ↦ ap (λ (k : Core S). is_quiet next k.work) (again quiet) ∙ quiet
    | inr still ↦ elim (cases_Bool (is_quiet next c.work)) [
      | inl quiet ↦ absurd (both_ways (is_quiet next d.work) still (ap (λ (k : Core S). is_quiet next k.work) (same quiet) ∙ quiet))
      | inr before ↦ let m = more still in twice o x c d e server f before (moves before) m.1 g still m.0
    ]
  ]

  -- what a delivery leaves of a core
  pub delivered-same : (c d : Core S) (m : FiveMessage) (v : Verdict) → is_quiet next c.work ≡ true →
      (has_ended next c.work ≡ true → d ≡ c) →
      (has_ended next c.work ≡ false → Answers next c d m v) →
      (d.work.me ≡ c.work.me) × (d.work.script ≡ c.work.script) × (handed_rounds d ≡ handed_rounds c)
  delivered-same c d m v quiet ended answers = elim (cases_Bool (has_ended next c.work)) [
    | inl e ↦
        let is = ended e in
        (ap (λ (k : Core S). k.work.me) is, ap (λ (k : Core S). k.work.script) is, ap (λ (k : Core S). handed_rounds k) is)
    | inr goes ↦ same-rounds c d m v quiet goes (answers goes)
  ]

  -- a core's verdict, from those that it has before and after it has ended
  pub verdict-told : (c : Core S) (m : FiveMessage) (v : Verdict) → (has_ended next c.work ≡ true → v ≡ late_verdict c.work m) →
      (has_ended next c.work ≡ false → v ≡ verdict_of c.mail m) → v ≡ verdict_at next c m
  verdict-told c m v late told = elim (cases_Bool (has_ended next c.work)) [
    | inl e ↦ late e ∙ sym (ap (λ b. if b then late_verdict c.work m else verdict_of c.mail m) e)
    | inr goes ↦ told goes ∙ sym (ap (λ b. if b then late_verdict c.work m else verdict_of c.mail m) goes)
  ]

  pub delivered-goes : (c d : Core S) (m : FiveMessage) (v : Verdict) → (has_ended next c.work ≡ true → d ≡ c) →
      (has_ended next c.work ≡ false → Answers next c d m v) → (c.work.handed ≡ true → has_ended next c.work ≡ false) →
      d.work.handed ≡ true → has_ended next d.work ≡ false
  delivered-goes c d m v ended answers opens h = elim (cases_Bool (has_ended next c.work)) [
    | inl e ↦ let is = ended e in ap (λ (k : Core S). has_ended next k.work) is ∙ opens (ap (λ (k : Core S). k.work.handed) (sym is) ∙ h)
    | inr goes ↦ by_verdict goes (answers goes) v refl
  ]
    where
      stay : has_ended next c.work ≡ false → Answers next c d m v → v ≢ Ready → has_ended next d.work ≡ false
      stay goes a other = ap (λ (k : Core S). has_ended next k.work) (a.waits other) ∙ goes

      by_verdict : has_ended next c.work ≡ false → Answers next c d m v → (u : Verdict) → v ≡ u → has_ended next d.work ≡ false
      by_verdict goes a Ready e = absurd (true≢false (sym h ∙ ap (λ (w : Work S). w.handed) (a.passes e).work))
      by_verdict goes a Stored e = stay goes a (λ r. cc (e, r))
      by_verdict goes a Repeat e = stay goes a (λ r. cc (e, r))
      by_verdict goes a Old e = stay goes a (λ r. cc (e, r))
      by_verdict goes a (TooEarly n) e = stay goes a (λ r. cc (e, r))
      by_verdict goes a (WrongLength n) e = stay goes a (λ r. cc (e, r))
      by_verdict goes a Stranger e = stay goes a (λ r. cc (e, r))

  pub still-member : (o : Setup) (x : Delivered ℕ) (c d : Core S) (sent : List (List FiveMessage)) → d.work.me ≡ c.work.me →
      handed_rounds d ≡ handed_rounds c →
      Fits next o x d.work d.mail → sent ≡ each (messages_from o c.work.me) (handed_rounds c) →
      (d.work.handed ≡ true → has_ended next d.work ≡ false) →
      IsMember next o x d sent
  still-member o x c d sent me rounds fits is goes =
      record { fits = fits; messages = is ∙ (λ i. each (messages_from o (sym me i)) (sym rounds i)); goes = goes }

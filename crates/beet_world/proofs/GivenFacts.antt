-- What a message given to a core, and what it hands out then, makes of it.
use Rattle.std.proofs.Common.{◌≡◌, ℕ, ◌+◌, ◌<◌, ◌≤◌, List, [], ◌∷◌, ◌++◌, Bool, true, false, true≢false, inl, inr}
use Rattle.std.proofs.Common.{arith, refl, sym, ◌∙◌, ap, subst, ◌||◌}
use Rattle.std.proofs.lemmas.Bool.{cases_Bool, cases_eq}
use Rattle.beet_gates.specs.Each.{each}
use Rattle.beet_gates.specs.declared.Batch.{Batch}
use Rattle.beet_gates.proofs.EachFacts.{each-more}
use Rattle.beet_round.specs.declared.message.RoundMessage.{RoundMessage}
use Rattle.beet_round.specs.declared.mailbox.Verdict.{Verdict}
use Rattle.beet_round.specs.declared.sides.Side.{Side}
use Rattle.beet_round.specs.Sides.{peer}
use Rattle.beet_sharing.specs.Runs.{Setup, HasRounds}
use Rattle.beet_delivery.specs.Events.{Delivered, with_triple}
use Rattle.beet_server.specs.Cores.{Core, is_quiet, has_ended}
use Rattle.beet_server.specs.Fits.{Fits, IsRound, message_of, messages_from, taken}
use Rattle.beet_server.specs.Answers.{Answers, Keeps, Moves, verdict_on}
use Rattle.beet_server.proofs.Passing.{ended_at, round_most}
use Rattle.beet_world.specs.Worlds.{sent_by}
use Rattle.beet_world.specs.Happens.{IsGiven, MayGive}
use Rattle.beet_server.proofs.Rounds.{ready_or}

-- what stays twice stays
pub keeps-both : {S : Type 0} {old mid new : Core S} → Keeps old mid → Keeps mid new → Keeps old new
keeps-both first second = record {
  me = second.me ∙ first.me;
  script = second.script ∙ first.script;
  masks = second.masks ∙ first.masks;
  coefficients = second.coefficients ∙ first.coefficients;
}

module _ {S : Type 0} (next : S → ℕ → List ℕ → Batch) where
  -- a core that hands out its messages has not done so before, and has not ended
  pub loud : (c : Core S) → is_quiet next c ≡ false → (c.handed ≡ false) × (has_ended next c ≡ false)
  loud c h = parts c.handed (has_ended next c) h where
    parts : (a b : Bool) → (a || b) ≡ false → (a ≡ false) × (b ≡ false)
    parts true b e = absurd (true≢false e)
    parts false true e = absurd (true≢false e)
    parts false false e = (refl, refl)

  -- one round's messages more are taken
  pub taken-more : (c d : Core S) → c.handed ≡ false → Moves c d → taken d.round d.handed ≡ taken c.round c.handed + 1
  taken-more c d idle (inr (not, round, handed)) = rw (idle, handed, round) (omega arith)
  taken-more c d idle (inl (both, round, handed)) = rw (idle, handed, round) refl

  -- they are sent
  pub sends-more : (o : Setup) (c d : Core S) → c.handed ≡ false → Moves c d → d.me ≡ c.me →
      each (messages_from o d.me) (taken d.round d.handed)
      ≡ each (messages_from o c.me) (taken c.round c.handed) ++ messages_from o c.me c.round ∷ []
  sends-more o c d idle moves me =
      let count : taken c.round c.handed ≡ c.round = ap (taken c.round) idle in
      (λ i. each (messages_from o (me i)) (taken-more c d idle moves i)) ∙ each-more (messages_from o c.me) (taken c.round c.handed)
      ∙ ap (λ n. each (messages_from o c.me) (taken c.round c.handed) ++ messages_from o c.me n ∷ []) count

  -- a core that has handed out the messages of its round has not ended
  pub goes-more : (o : Setup) (x : Delivered) (c d : Core S) (rounds : ℕ) → HasRounds o rounds → Fits next o x c →
      has_ended next c ≡ false → Moves c d →
      d.handed ≡ true → d.round < rounds
  goes-more o x c d rounds h f on (inr (not, round, handed)) e =
      let most = round_most next o x c rounds h f in
      elim (cases_eq c.round rounds) [
        | inl last ↦ absurd (true≢false (sym ((ended_at next o x c rounds h f).1 last) ∙ on))
        | inr other ↦ omega (arith, most, other, round)
      ]
  goes-more o x c d rounds h f on (inl (both, round, handed)) e = absurd (true≢false (sym e ∙ handed))

  -- a message given to a core that has nothing to hand out
  pub record Takes (c d : Core S) (m : RoundMessage) (v : Verdict) : Type 0 where
    pub ended : has_ended next c ≡ true → d ≡ c
    pub going : has_ended next c ≡ false → Answers next c d m v

  still_handed : (c : Core S) → is_quiet next c ≡ true → has_ended next c ≡ false → c.handed ≡ true
  still_handed c q on = by c.handed (has_ended next c) q on where
    by : (a b : Bool) → (a || b) ≡ true → b ≡ false → a ≡ true
    by true b q on = refl
    by false true q on = absurd (true≢false on)
    by false false q on = absurd (true≢false (sym q))

  -- it takes nothing from the tapes
  pub given-taken : (c d : Core S) (m : RoundMessage) (v : Verdict) → is_quiet next c ≡ true → Takes c d m v →
      taken d.round d.handed ≡ taken c.round c.handed
  given-taken c d m v q g = elim (cases_Bool (has_ended next c)) [
    | inl end ↦ ap (λ k. taken k.round k.handed) (g.ended end)
    | inr on ↦
        let a = g.going on in
        elim (ready_or v) [
          | inl ready ↦ ap (λ k. taken k.round k.handed) (a.passes ready) ∙ rw (still_handed c q on) (omega arith)
          | inr other ↦ ap (λ k. taken k.round k.handed) (a.waits other)
        ]
  ]

  pub given-going : (c d : Core S) (m : RoundMessage) (v : Verdict) (rounds : ℕ) → Takes c d m v →
      (c.handed ≡ true → c.round < rounds) → d.handed ≡ true → d.round < rounds
  given-going c d m v rounds g before handed = elim (cases_Bool (has_ended next c)) [
    | inl end ↦ subst (λ (k : Core S). k.round < rounds) (sym (g.ended end)) (before (sym (ap (λ k. k.handed) (g.ended end)) ∙ handed))
    | inr on ↦
        let a = g.going on in
        elim (ready_or v) [
          | inl ready ↦ absurd (true≢false (sym handed ∙ ap (λ k. k.handed) (a.passes ready)))
          | inr other ↦ subst (λ (k : Core S). k.round < rounds) (sym (a.waits other))
              (before (sym (ap (λ k. k.handed) (a.waits other)) ∙ handed))
        ]
  ]

  -- what it has sent stays as it is
  pub given-sends : (o : Setup) (c d : Core S) (m : RoundMessage) (v : Verdict) → is_quiet next c ≡ true → Takes c d m v → d.me ≡ c.me →
      each (messages_from o d.me) (taken d.round d.handed) ≡ each (messages_from o c.me) (taken c.round c.handed)
  given-sends o c d m v q g me = λ i. each (messages_from o (me i)) (given-taken c d m v q g i)

  -- a message is given to a core, which then hands out all that it has to
  pub given-all : (o : Setup) (x : Delivered) (rounds : ℕ) (s : Side) (t : ℕ) (c d e : Core S)
      (sent sent' : List (List RoundMessage)) (m : RoundMessage) (v : Verdict) →
      is_quiet next c ≡ true → Takes c d m v → d.me ≡ c.me →
      ((o : Setup) (x : Delivered) (s : Side) (t : ℕ) → Fits next o x c → m ≡ message_of o (peer c.me s) c.me t →
      IsRound o t → t ≤ c.round + 1 →
      Fits next o (with_triple x (record { from = peer c.me s; to = c.me; round = t })) d) →
      ((o : Setup) (x : Delivered) (s : Side) (t : ℕ) → Fits next o x c → m ≡ message_of o (peer c.me s) c.me t →
      IsRound o t → t ≤ c.round + 1 → v ≡ verdict_on x c.me c.round s t) →
      ((o : Setup) (x : Delivered) → Fits next o x d → Fits next o x e) →
      ((o : Setup) (x : Delivered) → Fits next o x d → sent ≡ sent_by o d → sent' ≡ sent_by o e) →
      ((o : Setup) (x : Delivered) (rounds : ℕ) → HasRounds o rounds → Fits next o x d →
      (d.handed ≡ true → d.round < rounds) → e.handed ≡ true → e.round < rounds) →
      MayGive next o x rounds s t c sent m → IsGiven next o x rounds s t c e sent' v
  given-all o x rounds s t c d e sent sent' m v quiet takes me fits told out sends going may =
      let y : Delivered = with_triple x (record { from = peer c.me s; to = c.me; round = t }) in
      let between : Fits next o y d = fits o x s t may.fits may.is_message may.is_round may.near in
      record {
        fits = out o y between;
        going = going o y rounds may.has_rounds between (given-going c d m v rounds takes may.going);
        sends = sends o y between (may.sends ∙ sym (given-sends o c d m v quiet takes me));
        told = told o x s t may.fits may.is_message may.is_round may.near;
      }

  -- there is room for what goes out
  pub room-for : (c : Core S) (n rounds : ℕ) → is_quiet next c ≡ false → n ≡ taken c.round c.handed → c.round < rounds → n < rounds
  room-for c n rounds h e lt = let idle = (loud c h).0 in omega (arith, e ∙ ap (taken c.round) idle, lt)

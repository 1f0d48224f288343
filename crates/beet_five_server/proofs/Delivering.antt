-- A message of the run is delivered to a core that fits it.
use Rattle.std.proofs.Common.{◌≡◌, ◌≢◌, ◌≤◌, ◌<◌, ◌+◌, ◌*◌, ◌==◌, ◌&&◌, ◌||◌, ℕ, Bool, true, false, true≢false, is_some}
use Rattle.std.proofs.Common.{if◌then◌else◌, List, length, sym, refl, ap, subst, ◌∙◌, ◌⊎◌, inl, inr, ⊎_elim, arith}
use Rattle.std.proofs.lemmas.Bool.{eq-eqb, le-ltb, lt-ltb, and_from, and_parts, cases_Bool, cases_eq, cases_lt, eqb-true}
use Rattle.std.proofs.lemmas.Bool.{false_from_ne_true, ne_eqb, or_cases, or_left, or_right}
use Rattle.arrayvec.specs.ArrayVec.{array_vec_len}
use Rattle.beet_gates.specs.Clear.{is_end}
use Rattle.beet_gates.specs.Scripts.{size_of}
use Rattle.beet_gates.specs.declared.Batch.{Batch}
use Rattle.beet_delivery.specs.Networks.{Delivered, all_in, with_triple}
use Rattle.beet_weights.specs.Quadratics.{IsServer}
use Rattle.beet_round.specs.declared.mailbox.Verdict.{Verdict}
use Rattle.beet_round.specs.declared.mailbox.Verdict.TheVariants.{Stored, Ready, Repeat, Old}
use Rattle.beet_linear_sharing.specs.Runs.{Setup}
use Rattle.beet_five_server.specs.Runs.{coming, standing_at}
use Rattle.beet_five_server.specs.Answers.{Core, MovesOn}
use Rattle.beet_five_server.specs.Cores.{Work, batch_of, has_ended}
use Rattle.beet_five_server.specs.Fits.{Fits, IsRound, Stands, message_of, some_if}
use Rattle.beet_five_server.specs.Mails.{Mailbag, all_there, cell, is_stranger, left_by, put, verdict_of}
use Rattle.beet_five_server.specs.Network.{five, sends_to}
use Rattle.beet_five_server.specs.declared.mail.FiveMessage.{FiveMessage}
use Rattle.beet_five_server.proofs.Peers.{IsPeer, five-heard, five-hears, peer-is, server-true}
use Rattle.beet_five_server.proofs.RunSteps.{length-sent_for}
use Rattle.beet_five_server.proofs.Standing.{after-moving, coming-is, place-delivered, put-here, put-there, still-waits, within-bag}
use Rattle.beet_server.proofs.Delivering.{or-same}

or-false : (a b : Bool) → b ≡ false → (a || b) ≡ a
or-false true b e = refl
or-false false b e = e

-- a set with one message to a server more
module _ (x : Delivered ℕ) (me j t : ℕ) where
  abbrev pub new_set : Delivered ℕ
  new_set = with_triple five x (record { from = j; to = me; round = t })

  new-here : new_set j me t ≡ true
  new-here = or_right _ _ (and_from _ _ (and_from _ _ (eq-eqb j j refl) (eq-eqb me me refl)) (eq-eqb t t refl))

  new-other : (i r : ℕ) → ((i ≡ j) × (r ≡ t) → ⊥) → new_set i me r ≡ x i me r
  new-other i r other =
      or-false _ _ (false_from_ne_true _ (λ e. let b = and_parts _ _ e in other (eqb-true i j (and_parts _ _ b.0).0, eqb-true r t b.1)))

  new-kept : (i r : ℕ) → x i me r ≡ true → new_set i me r ≡ true
  new-kept i r e = or_left _ _ e

  new-cases : (i r : ℕ) → new_set i me r ≡ true → (x i me r ≡ true) ⊎ (r ≡ t)
  new-cases i r e = ⊎_elim (λ a. inl a) (λ b. inr (eqb-true r t (and_parts _ _ b).1)) (or_cases _ _ e)

  pub new-again : x j me t ≡ true → new_set ≡ x
  new-again e = λ i from to r. or-same (x from to r) ((from == j) && (to == me) && (r == t))
      (λ b. let c = and_parts _ _ b in let d = and_parts _ _ c.0 in
      rw (eqb-true from j d.0, eqb-true to me d.1, eqb-true r t c.1) e) i

module _ {S : Type 0} (next : S → ℕ → List ℕ → Batch) (o : Setup) (x : Delivered ℕ) (w : Work S) (bag : Mailbag) (server : IsServer w.me)
    (fits : Fits next o x w bag) (j t : ℕ) (may : sends_to j w.me ≡ true) (is_round : IsRound o t) (near : t ≤ w.round + 1) where
  abbrev pub the_message : FiveMessage
  the_message = message_of o j w.me t

  abbrev the_set : Delivered ℕ
  the_set = new_set x w.me j t

  pub unchanged : x j w.me t ≡ true → Fits next o the_set w bag
  unchanged old = subst (λ (y : Delivered ℕ). Fits next o y w bag) (sym (new-again x w.me j t old)) fits

  -- an ended core has all that may come
  pub late : has_ended next w ≡ true → Fits next o the_set w bag
  late ended = unchanged (fits.before j may t (below (is_end (coming o w.round).act) refl))
    where
      below : (b : Bool) → is_end (coming o w.round).act ≡ b → t < w.round
      below true e = elim (cases_lt t w.round) [ inl h ↦ h | inr h ↦ absurd (true≢false (sym e ∙ is_round w.round h)) ]
      below false e = absurd (true≢false (sym ended ∙ ap (λ (b : Batch). is_end b.act) (coming-is next o x w bag server fits.stands) ∙ e))

  -- the message is put in its place
  pub puts : w.handed ≡ true → 5 * (w.round + 2) ≤ length bag.places → Stands next o the_set w (put bag the_message)
  puts handed room = record {
    work = fits.work;
    mail = λ i can r. by_place i can r (cases_eq i j) (cases_eq r t);
    own = λ r lt. put-there bag the_message r w.me server peer.server (λ e. peer.other (sym e.1)) ∙ fits.own r lt;
    none = λ r le. put-there bag the_message r w.me server peer.server (λ e. peer.other (sym e.1)) ∙ fits.none r le;
    before = λ i can r h. new-kept x w.me j t i r (fits.before i can r h);
    soon = λ i can r e. ⊎_elim (λ a. fits.soon i can r a) (λ (b : r ≡ t). rw (b, handed) (omega (arith, near), is_round))
        (new-cases x w.me j t i r e);
  }
    where
      peer : IsPeer j w.me
      peer = peer-is j w.me may

      elsewhere : (i r : ℕ) → sends_to i w.me ≡ true → ((r ≡ t) × (i ≡ j) → ⊥) →
          cell (put bag the_message).places r i ≡ some_if (the_set i w.me r) (message_of o i w.me r)
      elsewhere i r can other =
          put-there bag the_message r i (peer-is i w.me can).server peer.server other ∙ fits.mail i can r
          ∙ ap (λ b. some_if b (message_of o i w.me r)) (sym (new-other x w.me j t i r (λ e. other (e.1, e.0))))

      by_place : (i : ℕ) → sends_to i w.me ≡ true → (r : ℕ) → (i ≡ j) ⊎ (i ≢ j) → (r ≡ t) ⊎ (r ≢ t) →
          cell (put bag the_message).places r i ≡ some_if (the_set i w.me r) (message_of o i w.me r)
      by_place i can r (inl a) (inl b) =
          rw (a, b) (put-here bag the_message (within-bag t j w.round bag peer.server near room)
          ∙ ap (λ b. some_if b the_message) (sym (new-here x w.me j t)))
      by_place i can r (inr a) b = elsewhere i r can (λ e. a e.1)
      by_place i can r (inl a) (inr b) = elsewhere i r can (λ e. b e.0)

  -- the verdict on it
  module _ (me : bag.me ≡ w.me) (at : bag.round ≡ w.round) (want : bag.want ≡ size_of (batch_of next w).act) where
    no-stranger : is_stranger bag.me the_message ≡ false
    no-stranger =
        let peer = peer-is j w.me may in
        rw (me, eq-eqb w.me w.me refl, ne_eqb j w.me peer.other, server-true j peer.server) refl

    long : t ≡ w.round → array_vec_len the_message.numbers ≡ bag.want
    long e =
        rw (e, want, coming-is next o x w bag server fits.stands)
        (length-sent_for o (standing_at o w.round) (coming o w.round).act j w.me)

    is-old : t < w.round → verdict_of bag the_message ≡ Old
    is-old lt = rw (no-stranger, at, lt-ltb t w.round lt) refl

    is-repeat : w.round ≤ t → x j w.me t ≡ true → verdict_of bag the_message ≡ Repeat
    is-repeat le there =
        let filled : is_some (cell bag.places t j) ≡ true = place-delivered next o x w bag server fits.stands j t may ∙ there in
        rw (no-stranger, at, le-ltb t w.round le, le-ltb (w.round + 1) t near, filled) refl

    is-early : t ≡ w.round + 1 → x j w.me t ≡ false → verdict_of bag the_message ≡ Stored
    is-early e out =
        let empty : is_some (cell bag.places t j) ≡ false = place-delivered next o x w bag server fits.stands j t may ∙ out in
        rw (
          no-stranger,
          at,
          le-ltb t w.round (omega (arith, e)),
          le-ltb (w.round + 1) t near,
          empty,
          ne_eqb t w.round
              (λ f. absurd (omega (arith, e, f))),
        ) refl

    is-due : t ≡ w.round → x j w.me t ≡ false → (b : Bool) → all_there (put bag the_message).places w.round ≡ b →
        verdict_of bag the_message ≡ (if b then Ready else Stored)
    is-due e out b all =
        let empty : is_some (cell bag.places t j) ≡ false = place-delivered next o x w bag server fits.stands j t may ∙ out in
        rw (
          no-stranger,
          at,
          le-ltb t w.round (omega (arith, e)),
          le-ltb (w.round + 1) t near,
          empty,
          eq-eqb t w.round e,
          eq-eqb
              (array_vec_len the_message.numbers) bag.want (long e),
          all,
        ) refl

-- what a delivered message of the run leaves
abbrev pub FitsAfter : {S : Type 0} → (S → ℕ → List ℕ → Batch) → Core S → Core S → FiveMessage → Type 0
FitsAfter next old new m =
    (o : Setup) (x : Delivered ℕ) (j t : ℕ) → Fits next o x old.work old.mail → sends_to j old.work.me ≡ true →
    m ≡ message_of o j old.work.me t → IsRound o t →
    t ≤ old.work.round + 1 → Fits next o (with_triple five x (record { from = j; to = old.work.me; round = t })) new.work new.mail

module _ {S : Type 0} (next : S → ℕ → List ℕ → Batch) (c : Core S) (server : IsServer c.work.me) where
  pub after-late : (m : FiveMessage) → has_ended next c.work ≡ true → FitsAfter next c c m
  after-late m ended o x j t fits may is is_round near = late next o x c.work c.mail server fits j t may is_round near ended

  module _ (me : c.mail.me ≡ c.work.me) (at : c.mail.round ≡ c.work.round) (want : c.mail.want ≡ size_of (batch_of next c.work).act)
      (room : 5 * (c.work.round + 2) ≤ length c.mail.places) (handed : c.work.handed ≡ true) where
    module _ (o : Setup) (x : Delivered ℕ) (j t : ℕ) (fits : Fits next o x c.work c.mail) (may : sends_to j c.work.me ≡ true)
        (is_round : IsRound o t)
        (near : t ≤ c.work.round + 1) where
      abbrev m : FiveMessage
      m = message_of o j c.work.me t

      abbrev y : Delivered ℕ
      y = new_set x c.work.me j t

      put-fits : Stands next o y c.work (put c.mail m)
      put-fits = puts next o x c.work c.mail server fits j t may is_round near handed room

      -- a message of the next round leaves the round waiting
      waits-on : t ≢ c.work.round → all_in five y c.work.me c.work.round ≡ false
      waits-on other =
          false_from_ne_true _ (λ all. true≢false (sym (five-hears x c.work.me c.work.round
          (λ i can. sym (new-other x c.work.me j t i c.work.round (λ e. other (sym e.1))) ∙ five-heard y c.work.me c.work.round all i can))
          ∙ fits.waits handed))

      -- the verdict and what it tells
      data Found : Type 0 where
        There : (v : Verdict) → verdict_of c.mail m ≡ v → left_by v c.mail m ≡ c.mail → v ≢ Ready → x j c.work.me t ≡ true → Found
        Early : verdict_of c.mail m ≡ Stored → t ≢ c.work.round → Found
        Waits : verdict_of c.mail m ≡ Stored → all_there (put c.mail m).places c.work.round ≡ false → Found
        Passes : verdict_of c.mail m ≡ Ready → all_there (put c.mail m).places c.work.round ≡ true → Found

      found : Found
      found = elim (cases_lt t c.work.round) [
        | inl lt ↦ There Old (is-old next o x c.work c.mail server fits j t may is_round near me at want lt) refl (λ e. cc e)
            (fits.before j may t lt)
        | inr le ↦ elim (cases_Bool (x j c.work.me t)) [
          | inl there ↦ There Repeat (is-repeat next o x c.work c.mail server fits j t may is_round near me at want le there) refl
              (λ e. cc e) there
          | inr out ↦ elim (cases_eq t c.work.round) [
            | inr other ↦ Early
                (is-early next o x c.work c.mail server fits j t may is_round near me at want (omega (arith, le, near, other)) out) other
            | inl e ↦ elim (cases_Bool (all_there (put c.mail m).places c.work.round)) [
              | inl all ↦ Passes (is-due next o x c.work c.mail server fits j t may is_round near me at want e out true all) all
              | inr some ↦ Waits (is-due next o x c.work c.mail server fits j t may is_round near me at want e out false some) some
            ]
          ]
        ]
      ]

      stays : verdict_of c.mail m ≢ Ready → Fits next o y c.work (left_by (verdict_of c.mail m) c.mail m)
      stays other = elim found [
        | There v is left unready there ↦ rw (is, left) (unchanged next o x c.work c.mail server fits j t may is_round near there)
        | Early is later ↦ rw is (record { stands = put-fits; waits = λ h. waits-on later })
        | Waits is some ↦ rw is (record {
          stands = put-fits;
          waits = λ h. still-waits next o y c.work (put c.mail m) server put-fits h some;
        })
        | Passes is all ↦ absurd (other is)
      ]

      passes : has_ended next c.work ≡ false → verdict_of c.mail m ≡ Ready → (d : Core S) →
          MovesOn next (record { work = c.work; mail = put c.mail m }) d →
          Fits next o y d.work d.mail
      passes goes ready d moves = elim found [
        | There v is left unready there ↦ absurd (unready (sym is ∙ ready))
        | Early is later ↦ cc (is, ready)
        | Waits is some ↦ cc (is, ready)
        | Passes is all ↦ after-moving next o y (record { work = c.work; mail = put c.mail m }) d server at handed goes all moves put-fits
      ]

    pub after-waits : (m : FiveMessage) → verdict_of c.mail m ≢ Ready →
        FitsAfter next c (record { work = c.work; mail = left_by (verdict_of c.mail m) c.mail m }) m
    after-waits m other o x j t fits may is is_round near =
        subst (λ (n : FiveMessage). Fits next o (new_set x c.work.me j t) c.work (left_by (verdict_of c.mail n) c.mail n)) (sym is)
        (stays o x j t fits may is_round near (λ e. other (ap (verdict_of c.mail) is ∙ e)))

    pub after-ready : (m : FiveMessage) (d : Core S) → has_ended next c.work ≡ false → verdict_of c.mail m ≡ Ready →
        MovesOn next (record { work = c.work; mail = put c.mail m }) d → FitsAfter next c d m
    after-ready m d goes ready moves o x j t fits may is is_round near =
        passes o x j t fits may is_round near goes (sym (ap (verdict_of c.mail) is) ∙ ready) d
        (subst (λ (n : FiveMessage). MovesOn next (record { work = c.work; mail = put c.mail n }) d) is moves)

-- A core that fits a run goes on fitting it.
use Rattle.std.proofs.Common.{◌≡◌, ◌≢◌, ◌≤◌, ◌<◌, ◌+◌, ◌==◌, ◌&&◌, ◌||◌, if◌then◌else◌, ℕ, suc, Bool, true, false}
use Rattle.std.proofs.Common.{true≢false, Some, None, is_some, List, ◌++◌, drop, sym, refl, ap, subst, ◌∙◌, ◌⊎◌, inl}
use Rattle.std.proofs.Common.{inr, ⊎_elim, arith, add-one}
use Rattle.std.proofs.lemmas.Bool.{eq-eqb, le-ltb, lt-ltb, and_from, and_parts, and_right, cases_lt, eqb-true}
use Rattle.std.proofs.lemmas.Bool.{false_from_ne_true, ne_eqb, or_cases, or_left, or_right}
use Rattle.std.proofs.lemmas.Bool.Decides.{nat_tests}
use Rattle.arrayvec.specs.ArrayVec.{array_vec_len}
use Rattle.beet_field.specs.Trio.{member}
use Rattle.beet_field.specs.declared.point.Point.{Point}
use Rattle.beet_field.specs.declared.point.Point.TheVariants.{One, Two, Three}
use Rattle.beet_words.specs.Tapes.{left_of}
use Rattle.beet_words.proofs.DrawnFrom.{left-passed, passed-again}
use Rattle.beet_words.specs.Words.{accepted}
use Rattle.beet_gates.specs.Clear.{with_lets, is_end}
use Rattle.beet_gates.specs.Scripts.{size_of}
use Rattle.beet_gates.specs.declared.Act.{Act}
use Rattle.beet_gates.specs.declared.Batch.{Batch}
use Rattle.beet_gates.proofs.EachFacts.{each-more}
use Rattle.beet_gates.specs.Draws.{draws_in}
use Rattle.beet_round.specs.Boxes.{Mailbox, place_at, with_place, numbers_of, numbers_at, HasBoth, Judged, JudgedFrom, kept, turned}
use Rattle.beet_round.specs.Sides.{peer}
use Rattle.beet_round.proofs.BoxFacts.{judged-from}
use Rattle.beet_round.proofs.SideFacts.{peer-apart, peer-one}
use Rattle.beet_round.specs.declared.message.RoundMessage.{RoundMessage}
use Rattle.beet_round.specs.declared.places.Places.{Places}
use Rattle.beet_round.specs.declared.mailbox.Verdict.{Verdict}
use Rattle.beet_round.specs.declared.mailbox.Verdict.TheVariants.{Stored, Ready, Repeat, Old, TooEarly, WrongLength, Stranger}
use Rattle.beet_round.specs.declared.sides.Side.{Side}
use Rattle.beet_round.specs.declared.sides.Side.TheVariants.{Low, High}
use Rattle.beet_sharing.specs.Runs.{Setup, Shared, coming, message, sent_for, shared_at, standing_at, gained}
use Rattle.beet_delivery.specs.Events.{Delivered, same, both_in, with_triple}
use Rattle.beet_server.specs.Answers.{HandsOut, IsLateVerdict, Keeps, Moves, other_side, verdict_on}
use Rattle.beet_server.specs.Cores.{Core, coming_at, has_ended}
use Rattle.beet_server.specs.Fits.{Fits, Stands, IsRound, message_of, messages_to, messages_from, some_if, taken}
use Rattle.beet_server.specs.Steps.{work_of, came_from, handed_out, messages_out, moved_on, sends, wires_given}
use Rattle.beet_sharing.specs.Steps.{numbers_opened, points_given}
use Rattle.beet_sharing.proofs.RunSteps.{length-sent_for, sends-run, gains-run, opens-run}
use Rattle.beet_server.proofs.Senders.{by-sender}
use Rattle.beet_sharing.proofs.Lined.{member-each, member-trio}
use Rattle.beet_delivery.proofs.ThreeServers.{same_is, same_self}

some-place : (b : Bool) (m : RoundMessage) → is_some (some_if b m) ≡ b
some-place true m = refl
some-place false m = refl

pub below-cases : (t n : ℕ) → t < n + 1 → (t < n) ⊎ (t ≡ n)
below-cases t n h = grind arith

below-or : {P : Type 0} → (t n : ℕ) → t < n + 1 → (t < n → P) → (t ≡ n → P) → P
below-or t n h f g = ⊎_elim f g (below-cases t n h)

-- both messages of the round are in the box where they were delivered
module _ {S : Type 0} (next : S → ℕ → List ℕ → Batch) (o : Setup) (x : Delivered) (c : Core S) (fits : Stands next o x c) where
  place-delivered : (s : Side) → is_some (place_at c.mail.now s) ≡ x (peer c.me s) c.me c.round
  place-delivered s = ap is_some (fits.now s) ∙ some-place _ _

  pub both-delivered : HasBoth c.mail.now → both_in x c.me c.round ≡ true
  both-delivered both =
      and_from _ _ (sym (place-delivered Low) ∙ both.0) (sym (place-delivered High) ∙ both.1)

  pub still-waits : (HasBoth c.mail.now → ⊥) → both_in x c.me c.round ≡ false
  still-waits not = false_from_ne_true _ (λ e. let b = and_parts _ _ e in not (place-delivered Low ∙ b.0, place-delivered High ∙ b.1))

  -- the batch that comes is that of the run
  pub coming-is : coming_at next c ≡ coming o c.round
  coming-is = λ i. sym fits.script i c.round (fits.opened i)

  -- the numbers that are left are those that the run has not drawn
  left-is : left_of c.coefficients ≡ drop (shared_at o (taken c.round c.handed)).drawn (member o.numbers c.me)
  left-is =
      let count = (shared_at o (taken c.round c.handed)).drawn in
      ap (λ n. accepted (drop n c.coefficients.words)) fits.drawn ∙ left-passed c.coefficients.words count ∙ ap (drop count) fits.numbers

  -- what is handed out is what the run says
  pub sends-is : c.handed ≡ false → (to : Point) → sends next (work_of c) to ≡ message o c.me to c.round
  sends-is h to =
      let dealt = rw h at fits.dealt in
      let drawn = rw h at left-is in
      let there : Shared = standing_at o c.round in
      rw (coming-is, fits.wires, fits.words, dealt, drawn) (sends-run o there (coming o c.round).act c.me to)

  -- the messages of the round are handed out
  pub hands-out : c.handed ≡ false → Stands next o x (handed_out next c)
  hands-out h =
      let dealt = rw h at fits.dealt in
      let drawn = rw h at fits.drawn in
      record {
        work = record {
          script = fits.script;
          words = fits.words;
          numbers = fits.numbers;
          rounds = fits.rounds;
          wires = fits.wires;
          opened = fits.opened;
          dealt = rw (coming-is, dealt) refl;
          drawn = rw (coming-is, drawn)
              (sym (passed-again c.coefficients.words (shared_at o c.round).drawn (draws_in (coming o c.round).act)));
          own = sends-is h c.me;
        };
        received = fits.received;
        now = fits.now;
        early = fits.early;
        before = fits.before;
        soon = λ s t e. let q = fits.soon s t e in let low = rw h at q.0 in (omega (arith, low), q.1);
      }

  -- both messages of the round are in, and the round is passed
  module _ (handed : c.handed ≡ true) (goes : has_ended next c ≡ false) (both : HasBoth c.mail.now) where
    abbrev there : Shared
    there = standing_at o c.round

    abbrev act : Act
    act = (coming o c.round).act

    abbrev given : Point → List ℕ
    given j = sent_for o there act j c.me

    abbrev new_batch : Batch
    new_batch = coming o (suc c.round)

    delivered : (s : Side) → x (peer c.me s) c.me c.round ≡ true
    delivered Low = sym (place-delivered Low) ∙ both.0
    delivered High = sym (place-delivered High) ∙ both.1

    in_place : (s : Side) → place_at c.mail.now s ≡ Some (message_of o (peer c.me s) c.me c.round)
    in_place s = fits.now s ∙ ap (λ b. some_if b (message_of o (peer c.me s) c.me c.round)) (delivered s)

    numbers_are : (s : Side) → numbers_at c.mail.now s ≡ given (peer c.me s)
    numbers_are s = ap numbers_of (in_place s)

    own_is : c.own ≡ given c.me
    own_is = rw handed at fits.own

    abbrev from : Point → List ℕ
    from j = came_from (work_of c) (numbers_at c.mail.now Low) (numbers_at c.mail.now High) j

    from_is : (j : Point) → from j ≡ given j
    from_is j = by-sender c.me j given c.own _ _ own_is (numbers_are Low) (numbers_are High)

    opened_is : (moved_on next c).opened ≡ (shared_at o (suc c.round)).opened
    opened_is =
        (λ i. fits.opened i ++ numbers_opened (coming-is i).act (from_is One i) (from_is Two i) (from_is Three i))
        ∙ ap (λ l. (shared_at o c.round).opened ++ l) (opens-run o there act c.me)

    next_round : suc c.round ≡ c.round + 1
    next_round = omega arith

    new_coming : next c.script (c.round + 1) (moved_on next c).opened ≡ new_batch
    new_coming = λ i. sym fits.script i (sym next_round i) (opened_is i)

    gained_is : wires_given next (work_of c) (numbers_at c.mail.now Low) (numbers_at c.mail.now High)
        ≡ member (shared_at o (suc c.round)).wires c.me
    gained_is =
        (λ i. fits.wires i ++ points_given (coming-is i).act (from_is One i) (from_is Two i) (from_is Three i))
        ∙ ap (λ l. member there.wires c.me ++ l) (gains-run o there act c.me)
        ∙ sym (member-trio (λ (j : Point). member there.wires j ++ gained o there act j) c.me)

    wires_are : (moved_on next c).wires ≡ member (standing_at o (suc c.round)).wires c.me
    wires_are =
        (λ i. with_lets (gained_is i) (new_coming i).lets.items)
        ∙ sym (member-each (λ (points : List ℕ). with_lets points new_batch.lets.items) (shared_at o (suc c.round)).wires c.me)

    abbrev want : ℕ
    want = size_of (next c.script (c.round + 1) (moved_on next c).opened).act

    size_is : (s : Side) → array_vec_len (message_of o (peer c.me s) c.me (c.round + 1)).numbers ≡ want
    size_is s =
        rw (new_coming, add-one) (length-sent_for o (standing_at o (suc c.round)) new_batch.act (peer c.me s) c.me)

    kept_place : (n : ℕ) (b : Bool) (m : RoundMessage) → array_vec_len m.numbers ≡ n → kept n (some_if b m) ≡ some_if b m
    kept_place n false m e = refl
    kept_place n true m e = rw e (ap (λ b. if b then Some m else None) (equal n)) where
      equal : (n : ℕ) → (n == n) ≡ true
      equal n = grind (arith, nat_tests)

    turned_now : (box : Mailbox) (n : ℕ) (s : Side) → place_at (turned box n).now s ≡ kept n (place_at box.next s)
    turned_now box n Low = refl
    turned_now box n High = refl

    turned_next : (box : Mailbox) (n : ℕ) (s : Side) → place_at (turned box n).next s ≡ None
    turned_next box n Low = refl
    turned_next box n High = refl

    none_later : (s : Side) → x (peer c.me s) c.me (c.round + 1 + 1) ≡ false
    none_later s = false_from_ne_true _ (λ e. absurd (let h = rw handed at (fits.soon s (c.round + 1 + 1) e).0 in omega (arith, h)))

    pub moves-on : Fits next o x (moved_on next c)
    moves-on = record {
      stands = record {
        work = record {
          script = fits.script;
          words = fits.words;
          numbers = fits.numbers;
          rounds = λ t h. below-or t c.round h (fits.rounds t) (λ e. rw e (ap (λ (b : Batch). is_end b.act) (sym coming-is) ∙ goes));
          wires = wires_are ∙ ap (λ n. member (standing_at o n).wires c.me) next_round;
          opened = opened_is ∙ ap (λ n. (shared_at o n).opened) next_round;
          dealt = rw add-one (rw handed at fits.dealt);
          drawn = rw add-one (rw handed at fits.drawn);
          own = refl;
        };
        received = rw (fits.received, in_place Low, in_place High) (sym (each-more (messages_to o c.me) c.round));
        now = λ s. turned_now c.mail want s ∙ ap (kept want) (fits.early s)
            ∙ kept_place want (x (peer c.me s) c.me (c.round + 1)) (message_of o (peer c.me s) c.me (c.round + 1)) (size_is s);
        early = λ s. turned_next c.mail want s
            ∙ ap (λ b. some_if b (message_of o (peer c.me s) c.me (c.round + 1 + 1))) (sym (none_later s));
        before = λ s t h. below-or t c.round h (fits.before s t) (λ e. rw e (delivered s));
        soon = λ s t e. let h = fits.soon s t e in let low = rw handed at h.0 in (omega (arith, low), h.1);
      };
      waits = λ e. absurd (true≢false (sym e));
    }

or-false : (a b : Bool) → b ≡ false → (a || b) ≡ a
or-false true b e = refl
or-false false b e = e

pub or-same : (a b : Bool) → (b ≡ true → a ≡ true) → (a || b) ≡ a
or-same true b f = refl
or-same false true f = sym (f refl)
or-same false false f = refl

-- a set with the message of a round from the peer at a side more
module _ (x : Delivered) (me : Point) (side : Side) (t : ℕ) where
  abbrev new_set : Delivered
  new_set = with_triple x (record { from = peer me side; to = me; round = t })

  new-here : new_set (peer me side) me t ≡ true
  new-here = or_right _ _ (and_from _ _ (and_from _ _ (same_self (peer me side)) (same_self me)) (eq-eqb t t refl))

  new-apart : (s : Side) (r : ℕ) → r ≢ t → new_set (peer me s) me r ≡ x (peer me s) me r
  new-apart s r other = or-false _ _ (and_right _ _ (ne_eqb r t other))

  new-other : (s : Side) (r : ℕ) → s ≢ side → new_set (peer me s) me r ≡ x (peer me s) me r
  new-other s r other =
      or-false _ _ (false_from_ne_true _ (λ e. let b = (and_parts _ _ e).0 in
      other (peer-one me s side (same_is (peer me s) (peer me side) (and_parts _ _ b).0))))

  new-kept : (s : Side) (r : ℕ) → x (peer me s) me r ≡ true → new_set (peer me s) me r ≡ true
  new-kept s r e = or_left _ _ e

  new-cases : (s : Side) (r : ℕ) → new_set (peer me s) me r ≡ true → (x (peer me s) me r ≡ true) ⊎ (r ≡ t)
  new-cases s r e = ⊎_elim (λ a. inl a) (λ b. inr (eqb-true r t (and_parts _ _ b).1)) (or_cases _ _ e)

  pub new-again : x (peer me side) me t ≡ true → new_set ≡ x
  new-again e = λ i from to r. or-same (x from to r) (same from (peer me side) && same to me && (r == t))
      (λ b. let c = and_parts _ _ b in let d = and_parts _ _ c.0 in
      rw (same_is from (peer me side) d.0, same_is to me d.1, eqb-true r t c.1) e) i

-- a box of which one place changed
placed-here : (places : Places) (side : Side) (m : RoundMessage) → place_at (with_place places side m) side ≡ Some m
placed-here places Low m = refl
placed-here places High m = refl

placed-other : (places : Places) (side s : Side) (m : RoundMessage) → s ≢ side → place_at (with_place places side m) s ≡ place_at places s
placed-other places Low Low m other = absurd (other refl)
placed-other places Low High m other = refl
placed-other places High Low m other = refl
placed-other places High High m other = absurd (other refl)

-- the sides one by one
split : (P : Side → Type 0) (side : Side) → P side → ((s : Side) → s ≢ side → P s) → (s : Side) → P s
split P Low here other Low = here
split P Low here other High = other High (λ e. cc e)
split P High here other Low = other Low (λ e. cc e)
split P High here other High = here

-- the other place of a round, where the message of one side is put in
other-in : (old new : Mailbox) (side : Side) (m : RoundMessage) → new ≡ record old { now = with_place old.now side m } → HasBoth new.now →
    is_some (place_at old.now (other_side side)) ≡ true
other-in old new Low m is both = (subst (λ (k : Mailbox). HasBoth k.now) is both).1
other-in old new High m is both = (subst (λ (k : Mailbox). HasBoth k.now) is both).0

other-out : (old new : Mailbox) (side : Side) (m : RoundMessage) →
    new ≡ record old { now = with_place old.now side m } → (HasBoth new.now → ⊥) →
    is_some (place_at old.now (other_side side)) ≡ false
other-out old new Low m is not = false_from_ne_true _ (λ e. not (subst (λ (k : Mailbox). HasBoth k.now) (sym is) (refl, e)))
other-out old new High m is not = false_from_ne_true _ (λ e. not (subst (λ (k : Mailbox). HasBoth k.now) (sym is) (e, refl)))

-- the verdict in each of its cases
module _ (x : Delivered) (s : Point) (round : ℕ) (side : Side) (t : ℕ) where
  verdict-old : t < round → Old ≡ verdict_on x s round side t
  verdict-old lt = rw (lt-ltb t round lt) refl

  verdict-repeat : round ≤ t → x (peer s side) s t ≡ true → Repeat ≡ verdict_on x s round side t
  verdict-repeat le there = rw (le-ltb t round le, there) refl

  verdict-ready : t ≡ round → x (peer s side) s t ≡ false → x (peer s (other_side side)) s t ≡ true → Ready ≡ verdict_on x s round side t
  verdict-ready e out other = rw (le-ltb t round (omega (arith, e)), out, eq-eqb t round e, other) refl

  verdict-stored : t ≡ round → x (peer s side) s t ≡ false → x (peer s (other_side side)) s t ≡ false → Stored ≡ verdict_on x s round side t
  verdict-stored e out other = rw (le-ltb t round (omega (arith, e)), out, eq-eqb t round e, other) refl

  verdict-early : t ≡ round + 1 → x (peer s side) s t ≡ false → Stored ≡ verdict_on x s round side t
  verdict-early e out = rw (le-ltb t round (omega (arith, e)), out, ne_eqb t round (λ f. absurd (omega (arith, e, f)))) refl

-- a message of the run to a core that fits it, of a round that it may get
module _ {S : Type 0} (next : S → ℕ → List ℕ → Batch) (o : Setup) (x : Delivered) (c : Core S) (fits : Fits next o x c)
    (side : Side) (t : ℕ) (is_round : IsRound o t) (near : t ≤ c.round + 1) where
  abbrev the_message : RoundMessage
  the_message = message_of o (peer c.me side) c.me t

  abbrev the_set : Delivered
  the_set = new_set x c.me side t

  pub unchanged : x (peer c.me side) c.me t ≡ true → Fits next o the_set c
  unchanged old = subst (λ (y : Delivered). Fits next o y c) (sym (new-again x c.me side t old)) fits

  -- an ended core has all that may come
  passed-before : has_ended next c ≡ true → t < c.round
  passed-before ended = below (is_end (coming o c.round).act) refl
    where
      below : (b : Bool) → is_end (coming o c.round).act ≡ b → t < c.round
      below true e = elim (cases_lt t c.round) [ inl h ↦ h | inr h ↦ absurd (true≢false (sym e ∙ is_round c.round h)) ]
      below false e = absurd (true≢false (sym ended ∙ ap (λ (b : Batch). is_end b.act) (coming-is next o x c fits.stands) ∙ e))

  pub late : has_ended next c ≡ true → Fits next o the_set c
  late ended = unchanged (fits.before side t (passed-before ended))

  -- a message is in the set where its place is filled
  in-now : (s : Side) (b : Bool) → is_some (place_at c.mail.now s) ≡ b → t ≡ c.round → x (peer c.me s) c.me t ≡ b
  in-now s b filled e = rw e (sym (place-delivered next o x c fits.stands s) ∙ filled)

  in-next : (b : Bool) → is_some (place_at c.mail.next side) ≡ b → t ≡ c.round + 1 → x (peer c.me side) c.me t ≡ b
  in-next b filled e =
      rw e (sym (some-place _ (message_of o (peer c.me side) c.me (c.round + 1))) ∙ ap is_some (sym (fits.early side)) ∙ filled)

  -- a message of the run has the length that is wanted
  not-long : c.mail.round ≡ c.round → c.mail.want ≡ size_of (coming_at next c).act → t ≡ c.mail.round →
      array_vec_len the_message.numbers ≡ c.mail.want
  not-long at want due =
      let e : t ≡ c.round = due ∙ at in
      rw (e, want, coming-is next o x c fits.stands)
      (length-sent_for o (standing_at o c.round) (coming o c.round).act (peer c.me side) c.me)

  -- the core has handed out the messages of the round
  module _ (handed : c.handed ≡ true) where
    soon_stays : (s : Side) (r : ℕ) → the_set (peer c.me s) c.me r ≡ true → (r ≤ taken c.round c.handed) × IsRound o r
    soon_stays s r e = ⊎_elim (λ a. fits.soon s r a) (λ (b : r ≡ t). rw (b, handed) (omega (arith, near), is_round))
        (new-cases x c.me side t s r e)

    before_stays : (s : Side) (r : ℕ) → r < c.round → the_set (peer c.me s) c.me r ≡ true
    before_stays s r h = new-kept x c.me side t s r (fits.before s r h)

    -- a change of the box alone
    boxed : (box : Mailbox) →
        ((s : Side) → place_at box.now s ≡ some_if (the_set (peer c.me s) c.me c.round) (message_of o (peer c.me s) c.me c.round)) →
        ((s : Side) → place_at box.next s
        ≡ some_if (the_set (peer c.me s) c.me (c.round + 1)) (message_of o (peer c.me s) c.me (c.round + 1))) →
        Stands next o the_set (record c { mail = box })
    boxed box now early = record {
      work = fits.work;
      received = fits.received;
      now = now;
      early = early;
      before = before_stays;
      soon = soon_stays;
    }

    -- the message is put in its place of this round
    pub put-now : (box : Mailbox) → t ≡ c.round → box ≡ record c.mail { now = with_place c.mail.now side the_message } →
        Stands next o the_set (record c { mail = box })
    put-now box e is =
        boxed box
        (λ s. ap (λ (b : Mailbox). place_at b.now s) is ∙ split
        (λ s. place_at (with_place c.mail.now side the_message) s
        ≡ some_if (the_set (peer c.me s) c.me c.round) (message_of o (peer c.me s) c.me c.round)) side
        (placed-here c.mail.now side the_message ∙ rw (← e, new-here x c.me side t) refl)
        (λ s other. placed-other c.mail.now side s the_message other ∙ fits.now s ∙ rw (new-other x c.me side t s c.round other) refl) s)
        (λ s. ap (λ (b : Mailbox). place_at b.next s) is ∙ fits.early s
        ∙ rw (new-apart x c.me side t s (c.round + 1) (λ f. absurd (omega (arith, e, f)))) refl)

    -- the message is put in its place of the next round
    put-next : (box : Mailbox) → t ≡ c.round + 1 → box ≡ record c.mail { next = with_place c.mail.next side the_message } →
        Fits next o the_set (record c { mail = box })
    put-next box e is =
        let apart : (s : Side) → the_set (peer c.me s) c.me c.round ≡ x (peer c.me s) c.me c.round =
        λ s. new-apart x c.me side t s c.round (λ f. absurd (omega (arith, e, f))) in
        record {
          stands =
              boxed box
              (λ s. ap (λ (b : Mailbox). place_at b.now s) is ∙ fits.now s ∙ rw (apart s) refl)
              (λ s. ap (λ (b : Mailbox). place_at b.next s) is ∙ split
              (λ s. place_at (with_place c.mail.next side the_message) s
              ≡ some_if (the_set (peer c.me s) c.me (c.round + 1)) (message_of o (peer c.me s) c.me (c.round + 1))) side
              (placed-here c.mail.next side the_message ∙ rw (← e, new-here x c.me side t) refl)
              (λ s other. placed-other c.mail.next side s the_message other ∙ fits.early s
              ∙ rw (new-other x c.me side t s (c.round + 1) other) refl) s);
          waits = λ h. rw (apart Low, apart High) (fits.waits h);
        }

    -- every verdict but Ready
    pub stays : (box : Mailbox) (v : Verdict) → c.mail.round ≡ c.round → c.mail.want ≡ size_of (coming_at next c).act →
        JudgedFrom c.mail box side the_message v → v ≢ Ready → Fits next o the_set (record c { mail = box })
    stays box Stranger at want judged other = absurd judged
    stays box Old at want judged other = rw judged.1 (unchanged (fits.before side t (omega (arith, judged.0, at))))
    stays box (TooEarly n) at want judged other = absurd (omega (arith, judged.0, at, near))
    stays box Repeat at want judged other =
        rw judged.1 (unchanged (⊎_elim (λ a. in-now side true a.1 (a.0 ∙ at)) (λ b. in-next true b.1 (b.0 ∙ ap (λ n. n + 1) at)) judged.0))
    stays box (WrongLength n) at want judged other = absurd (judged.2 (judged.1 ∙ not-long at want judged.0.0))
    stays box Ready at want judged other = absurd (other refl)
    stays box Stored at want judged other =
        ⊎_elim
        (λ a.
        let put = put-now box (a.0.0 ∙ at) a.3 in
        record { stands = put; waits = λ h. still-waits next o the_set (record c { mail = box }) put a.2 })
        (λ b. put-next box (b.0.0 ∙ ap (λ n. n + 1) at) b.1)
        judged

  -- the set and the round tell the verdict
  pub told : (box : Mailbox) (v : Verdict) → c.mail.round ≡ c.round → c.mail.want ≡ size_of (coming_at next c).act →
      JudgedFrom c.mail box side the_message v → v ≡ verdict_on x c.me c.round side t
  told box Stranger at want judged = absurd judged
  told box Old at want judged = verdict-old x c.me c.round side t (omega (arith, judged.0, at))
  told box (TooEarly n) at want judged = absurd (omega (arith, judged.0, at, near))
  told box Repeat at want judged =
      ⊎_elim
      (λ a. verdict-repeat x c.me c.round side t (omega (arith, a.0, at)) (in-now side true a.1 (a.0 ∙ at)))
      (λ b. verdict-repeat x c.me c.round side t (omega (arith, b.0, at)) (in-next true b.1 (b.0 ∙ ap (λ n. n + 1) at)))
      judged.0
  told box (WrongLength n) at want judged = absurd (judged.2 (judged.1 ∙ not-long at want judged.0.0))
  told box Ready at want judged =
      let e : t ≡ c.round = judged.0.0 ∙ at in
      verdict-ready x c.me c.round side t e (in-now side false judged.0.1 e)
      (in-now (other_side side) true (other-in c.mail box side the_message judged.3 judged.2) e)
  told box Stored at want judged =
      ⊎_elim
      (λ a.
      let e : t ≡ c.round = a.0.0 ∙ at in
      verdict-stored x c.me c.round side t e (in-now side false a.0.1 e)
      (in-now (other_side side) false (other-out c.mail box side the_message a.3 a.2) e))
      (λ b.
      let e : t ≡ c.round + 1 = b.0.0 ∙ ap (λ n. n + 1) at in
      verdict-early x c.me c.round side t e (in-next false b.0.1 e))
      judged

  -- and so of an ended core
  pub told-late : (v : Verdict) → has_ended next c ≡ true → IsLateVerdict c the_message v → v ≡ verdict_on x c.me c.round side t
  told-late Stranger ended late = absurd (⊎_elim (λ a. a refl) (λ b. peer-apart c.me side b) late)
  told-late Old ended late = verdict-old x c.me c.round side t (passed-before ended)
  told-late (TooEarly n) ended late = absurd (let lt = passed-before ended in omega (arith, lt, late.2))
  told-late Stored ended late = absurd late
  told-late Ready ended late = absurd late
  told-late Repeat ended late = absurd late
  told-late (WrongLength n) ended late = absurd late

-- the verdict on a delivered message of the run
abbrev pub ToldAfter : {S : Type 0} → (S → ℕ → List ℕ → Batch) → Core S → RoundMessage → Verdict → Type 0
ToldAfter next old m v =
    (o : Setup) (x : Delivered) (s : Side) (t : ℕ) → Fits next o x old → m ≡ message_of o (peer old.me s) old.me t → IsRound o t →
    t ≤ old.round + 1 → v ≡ verdict_on x old.me old.round s t

-- what a delivered message of the run leaves
abbrev pub FitsAfter : {S : Type 0} → (S → ℕ → List ℕ → Batch) → Core S → Core S → RoundMessage → Type 0
FitsAfter next old new m =
    (o : Setup) (x : Delivered) (s : Side) (t : ℕ) → Fits next o x old → m ≡ message_of o (peer old.me s) old.me t → IsRound o t →
    t ≤ old.round + 1 → Fits next o (with_triple x (record { from = peer old.me s; to = old.me; round = t })) new

pub handed-first : (a b : Bool) → (a || b) ≡ true → b ≡ false → a ≡ true
handed-first true b e f = refl
handed-first false b e f = cc (e, f)

pub not-handed : (a b : Bool) → (a || b) ≡ false → (a ≡ false) × (b ≡ false)
not-handed true b e = cc e
not-handed false b e = (refl, e)

module _ {S : Type 0} (next : S → ℕ → List ℕ → Batch) (c : Core S) where
  from-side : (box : Mailbox) (v : Verdict) (o : Setup) (s : Side) (t : ℕ) → c.mail.me ≡ c.me →
      Judged c.mail box (message_of o (peer c.me s) c.me t) v → JudgedFrom c.mail box s (message_of o (peer c.me s) c.me t) v
  from-side box v o s t me judged = judged-from c.mail box _ s v (sym me) (ap (λ p. peer p s) (sym me)) judged

  pub after-late : (m : RoundMessage) → has_ended next c ≡ true → FitsAfter next c c m
  after-late m ended o x s t fits is is_round near = late next o x c fits s t is_round near ended

  pub after-offer : (box : Mailbox) (m : RoundMessage) (v : Verdict) → c.mail.me ≡ c.me → c.mail.round ≡ c.round →
      c.mail.want ≡ size_of (coming_at next c).act → Judged c.mail box m v → v ≢ Ready → c.handed ≡ true →
      FitsAfter next c (record c { mail = box }) m
  after-offer box m v me at want judged other handed o x s t fits is is_round near =
      let judged' = subst (λ (n : RoundMessage). Judged c.mail box n v) is judged in
      stays next o x c fits s t is_round near handed box v at want (from-side box v o s t me judged') other

  pub told-offer : (box : Mailbox) (m : RoundMessage) (v : Verdict) → c.mail.me ≡ c.me → c.mail.round ≡ c.round →
      c.mail.want ≡ size_of (coming_at next c).act → Judged c.mail box m v → ToldAfter next c m v
  told-offer box m v me at want judged o x s t fits is is_round near =
      let judged' = subst (λ (n : RoundMessage). Judged c.mail box n v) is judged in
      told next o x c fits s t is_round near box v at want (from-side box v o s t me judged')

  pub told-ended : (m : RoundMessage) (v : Verdict) → has_ended next c ≡ true → IsLateVerdict c m v → ToldAfter next c m v
  told-ended m v ended late o x s t fits is is_round near =
      told-late next o x c fits s t is_round near v ended (subst (λ (n : RoundMessage). IsLateVerdict c n v) is late)

  pub after-ready : (box : Mailbox) (m : RoundMessage) → c.mail.me ≡ c.me → c.mail.round ≡ c.round → Judged c.mail box m Ready →
      c.handed ≡ true → has_ended next c ≡ false → FitsAfter next c (moved_on next (record c { mail = box })) m
  after-ready box m me at judged handed goes o x s t fits is is_round near =
      let judged' = subst (λ (n : RoundMessage). Judged c.mail box n Ready) is judged in
      let j = from-side box Ready o s t me judged' in
      moves-on next o (new_set x c.me s t) (record c { mail = box })
      (put-now next o x c fits s t is_round near handed box (j.0.0 ∙ at) j.3) handed goes j.2

  -- the messages are handed out, and the round is passed where both messages to the server are in
  pub after-out : (d : Core S) (o : Setup) (x : Delivered) → c.handed ≡ false → has_ended next c ≡ false →
      HandsOut next c d → Fits next o x c → Fits next o x d
  after-out d o x handed goes leaves fits =
      let a = hands-out next o x c fits.stands handed in
      ⊎_elim
      (λ b. rw b.1 (moves-on next o x (handed_out next c) a refl goes b.0))
      (λ b. rw b.1 (record { stands = a; waits = λ _. still-waits next o x (handed_out next c) a b.0 }))
      leaves

  -- so far is the core then
  pub moves-after : (d : Core S) → HandsOut next c d → Moves c d
  moves-after d leaves =
      ⊎_elim (λ b. inl (b.0, ap (λ k. k.round) b.1, ap (λ k. k.handed) b.1))
      (λ b. inr (b.0, ap (λ k. k.round) b.1, ap (λ k. k.handed) b.1)) leaves

  -- and so much of it stays
  pub keeps-after : (d : Core S) → HandsOut next c d → Keeps c d
  keeps-after d leaves =
      ⊎_elim
      (λ b. rw b.1 (record { me = refl; script = refl; masks = refl; coefficients = refl }))
      (λ b. rw b.1 (record { me = refl; script = refl; masks = refl; coefficients = refl }))
      leaves

  -- the two messages that are handed out
  pub handed-messages : (o : Setup) (x : Delivered) → Fits next o x c → c.handed ≡ false →
      messages_out next c ≡ messages_from o c.me c.round
  handed-messages o x fits handed =
      let is : (s : Side) → sends next (work_of c) (peer c.me s) ≡ message o c.me (peer c.me s) c.round =
      λ s. sends-is next o x c fits.stands handed (peer c.me s) in
      rw (is Low, is High) refl

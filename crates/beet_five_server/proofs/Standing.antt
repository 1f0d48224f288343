-- A core that fits a run among five goes on fitting it.
use Rattle.std.proofs.Common.{◌≡◌, ◌≤◌, ◌<◌, ◌+◌, ◌*◌, ◌==◌, if◌then◌else◌, ℕ, suc, Bool, true, false, true≢false, Some}
use Rattle.std.proofs.Common.{None, is_some, List, ◌++◌, drop, map, length, sym, refl, ap, subst, ◌∙◌, ◌⊎◌, inl, inr, ⊎_elim}
use Rattle.std.proofs.Common.{arith, add-one}
use Rattle.std.proofs.lemmas.Bool.{cases_eq}
use Rattle.std.proofs.lemmas.Bool.{false_from_ne_true}
use Rattle.std.proofs.lemmas.Bool.Decides.{nat_tests}
use Rattle.std.proofs.lemmas.List.{get_or-set_same, get_or-set_other}
use Rattle.arrayvec.specs.ArrayVec.{array_vec_len}
use Rattle.beet_words.specs.Tapes.{left_of, words_passed}
use Rattle.beet_words.proofs.DrawnFrom.{left-passed, passed-again}
use Rattle.beet_words.specs.Words.{accepted}
use Rattle.beet_gates.specs.Clear.{with_lets, is_end}
use Rattle.beet_gates.specs.Scripts.{size_of}
use Rattle.beet_gates.specs.declared.Act.{Act}
use Rattle.beet_gates.specs.declared.Batch.{Batch}
use Rattle.beet_delivery.specs.Networks.{Delivered, all_in}
use Rattle.beet_weights.specs.Quadratics.{IsServer}
use Rattle.beet_linear_sharing.specs.Runs.{Setup, Shared}
use Rattle.beet_five_server.specs.Runs.{coming, drawn as drawn_in, draws_in, message, shared_at, standing_at}
use Rattle.beet_five_server.specs.Answers.{HandsOut, MovesOn, handed_out, message_out, messages_out, Core}
use Rattle.beet_five_server.specs.Cores.{Work, batch_of, handing, has_ended, passing, sends}
use Rattle.beet_five_server.specs.Fits.{Fits, Stands, message_of, messages_from, some_if, taken}
use Rattle.beet_five_server.specs.Mails.{Mailbag, Turned, all_there, cell, kept, numbers_at, numbers_of, place_of, put}
use Rattle.beet_five_server.specs.Network.{five, peers, sends_to}
use Rattle.beet_five_server.specs.Parts.{numbers_opened, points_given}
use Rattle.beet_five_server.specs.declared.mail.FiveMessage.{FiveMessage}
use Rattle.beet_five_server.proofs.MailFacts.{one-place}
use Rattle.beet_five_server.proofs.Peers.{five-heard, five-hears, peer-is, peer-or, there-all, there-each}
use Rattle.beet_five_server.proofs.RunNames.{sent_for}
use Rattle.beet_five_server.proofs.RunSteps.{drawn-more, gains-run, given-by, length-sent_for, opened-by-same, opens-run, sends-run}
use Rattle.beet_server.proofs.Delivering.{below-cases}

pub some-place : (b : Bool) (m : FiveMessage) → is_some (some_if b m) ≡ b
some-place true m = refl
some-place false m = refl

-- a place of which the message was put, and the others
pub put-here : (bag : Mailbag) (m : FiveMessage) → place_of m.round m.from < length bag.places →
    cell (put bag m).places m.round m.from ≡ Some m
put-here bag m within = get_or-set_same bag.places (place_of m.round m.from) (Some m) None within

pub put-there : (bag : Mailbag) (m : FiveMessage) (t j : ℕ) → IsServer j → IsServer m.from → ((t ≡ m.round) × (j ≡ m.from) → ⊥) →
    cell (put bag m).places t j ≡ cell bag.places t j
put-there bag m t j a b other =
    get_or-set_other bag.places (place_of m.round m.from) (place_of t j) (Some m) None (λ e. other (one-place t m.round j m.from a b e))

pub within-bag : (t j n : ℕ) (bag : Mailbag) → IsServer j → t ≤ n + 1 → 5 * (n + 2) ≤ length bag.places → place_of t j < length bag.places
within-bag t j n bag h le room = omega (arith, h.0, h.1, le, room)

module _ {S : Type 0} (next : S → ℕ → List ℕ → Batch) (o : Setup) (x : Delivered ℕ) (w : Work S) (bag : Mailbag) (server : IsServer w.me)
    (fits : Stands next o x w bag) where
  pub place-delivered : (j t : ℕ) → sends_to j w.me ≡ true → is_some (cell bag.places t j) ≡ x j w.me t
  place-delivered j t may = ap is_some (fits.mail j may t) ∙ some-place _ _

  -- where all messages of the round are there, all are delivered, and the other way round once the server's own is there
  pub all-delivered : all_there bag.places w.round ≡ true → all_in five x w.me w.round ≡ true
  all-delivered all =
      five-hears x w.me w.round
      (λ j may. sym (place-delivered j w.round may) ∙ there-each bag.places w.round all j (peer-is j w.me may).server)

  pub still-waits : w.handed ≡ true → all_there bag.places w.round ≡ false → all_in five x w.me w.round ≡ false
  still-waits handed missing =
      false_from_ne_true _ (λ all. true≢false (sym (there-all bag.places w.round (λ j is. elim (peer-or j w.me is server) [
        | inl e ↦ rw e (ap is_some (fits.own w.round (rw handed (omega arith))))
        | inr may ↦ place-delivered j w.round may ∙ five-heard x w.me w.round all j may
      ])) ∙ missing))

  -- the batch that comes is that of the run
  pub coming-is : batch_of next w ≡ coming o w.round
  coming-is = λ i. sym fits.script i w.round (fits.opened i)

  -- the numbers that are left are those that the run has not drawn
  left-is : left_of w.coefficients ≡ drop (drawn_in (shared_at o (taken w.round w.handed))) (o.numbers w.me)
  left-is =
      let count = (drawn_in (shared_at o (taken w.round w.handed))) in
      ap (λ n. accepted (drop n w.coefficients.words)) fits.drawn ∙ left-passed w.coefficients.words count ∙ ap (drop count) fits.numbers

  -- what is handed out is what the run says
  pub sends-is : w.handed ≡ false → (to : ℕ) → sends next w to ≡ message o w.me to w.round
  sends-is h to =
      let dealt = rw h at fits.dealt in
      let drawn = rw h at left-is in
      let there : Shared = standing_at o w.round in
      rw (coming-is, fits.wires, fits.words, dealt, drawn) (sends-run o there (coming o w.round).act w.me to)

  pub messages-are : w.handed ≡ false → messages_out next w ≡ messages_from o w.me w.round
  messages-are h =
      λ i. map (λ to. record { from = w.me; to = to; round = w.round; numbers = record { items = sends-is h to i } }) (peers w.me)

  -- the messages of the round are handed out, and the server's own is put in its place
  pub hands-out : w.handed ≡ false → 5 * (w.round + 2) ≤ length bag.places →
      Stands next o x (handing next w) (put bag (message_out next w w.me))
  hands-out h room =
      let dealt = rw h at fits.dealt in
      let drawn = rw h at fits.drawn in
      let m = message_out next w w.me in
      let is : m ≡ message_of o w.me w.me w.round =
      λ i. record { from = w.me; to = w.me; round = w.round; numbers = record { items = sends-is h w.me i } } in
      record {
        work = record {
          script = fits.script;
          words = fits.words;
          numbers = fits.numbers;
          rounds = fits.rounds;
          wires = fits.wires;
          opened = fits.opened;
          dealt = rw (coming-is, dealt) refl;
          drawn = rw (coming-is, drawn)
              (sym (passed-again w.coefficients.words (drawn_in (shared_at o w.round)) (draws_in (coming o w.round).act))
              ∙ ap (words_passed w.coefficients.words) (sym (drawn-more (shared_at o w.round) (coming o w.round).act)));
        };
        mail = λ j may t. let peer = peer-is j w.me may in put-there bag m t j peer.server server (λ e. peer.other e.1) ∙ fits.mail j may t;
        own = λ t lt. elim (below-cases t w.round (omega (arith, lt))) [
          | inl less ↦ put-there bag m t w.me server server (λ e. absurd (omega (arith, less, e.0))) ∙ fits.own t (rw h less)
          | inr e ↦ rw e (put-here bag m (within-bag w.round w.me w.round bag server (omega arith) room) ∙ ap (λ k. Some k) is)
        ];
        none = λ t le. put-there bag m t w.me server server (λ e. absurd (omega (arith, le, e.0))) ∙ fits.none t (rw h (omega (arith, le)));
        before = fits.before;
        soon = λ j may t e. let q = fits.soon j may t e in let low = rw h at q.0 in (omega (arith, low), q.1);
      }

  -- all messages of the round are there, and the round is passed
  module _ (handed : w.handed ≡ true) (goes : has_ended next w ≡ false) (all : all_there bag.places w.round ≡ true)
      (at : bag.round ≡ w.round)
      (new : Mailbag) (turned : Turned bag new (size_of (batch_of next (passing next w (numbers_at bag))).act)) where
    abbrev there : Shared
    there = standing_at o w.round

    abbrev act : Act
    act = (coming o w.round).act

    abbrev given : ℕ → List ℕ
    given j = sent_for o there act j w.me

    abbrev new_batch : Batch
    new_batch = coming o (suc w.round)

    abbrev after : Work S
    after = passing next w (numbers_at bag)

    delivered : (j : ℕ) → sends_to j w.me ≡ true → x j w.me w.round ≡ true
    delivered j may = five-heard x w.me w.round (all-delivered all) j may

    from_is : (j : ℕ) → IsServer j → numbers_at bag j ≡ given j
    from_is j is = elim (peer-or j w.me is server) [
      | inl e ↦ rw (at, e) (ap numbers_of (fits.own w.round (rw handed (omega arith))))
      | inr may ↦ rw at (ap numbers_of (fits.mail j may w.round ∙ ap (λ b. some_if b (message_of o j w.me w.round)) (delivered j may)))
    ]

    opened_is : after.opened ≡ (shared_at o (suc w.round)).opened
    opened_is =
        (λ i. fits.opened i ++ numbers_opened (coming-is i).act (numbers_at bag))
        ∙ ap (λ l. (shared_at o w.round).opened ++ l) (opened-by-same act (numbers_at bag) given from_is ∙ opens-run o there act w.me)

    next_round : suc w.round ≡ w.round + 1
    next_round = omega arith

    new_coming : next w.script (w.round + 1) after.opened ≡ new_batch
    new_coming = λ i. sym fits.script i (sym next_round i) (opened_is i)

    gained_is : w.wires ++ points_given (batch_of next w).act (numbers_at bag) ≡ (shared_at o (suc w.round)).wires w.me
    gained_is =
        (λ i. fits.wires i ++ points_given (coming-is i).act (numbers_at bag))
        ∙ ap (λ l. there.wires w.me ++ l) (given-by act (numbers_at bag) given from_is ∙ gains-run o there act w.me)

    wires_are : after.wires ≡ (standing_at o (suc w.round)).wires w.me
    wires_are = λ i. with_lets (gained_is i) (new_coming i).lets.items

    abbrev want : ℕ
    want = size_of (batch_of next after).act

    size_is : (j : ℕ) → array_vec_len (message_of o j w.me (w.round + 1)).numbers ≡ want
    size_is j = rw (new_coming, add-one) (length-sent_for o (standing_at o (suc w.round)) new_batch.act j w.me)

    kept_place : (n : ℕ) (b : Bool) (m : FiveMessage) → array_vec_len m.numbers ≡ n → kept n (some_if b m) ≡ some_if b m
    kept_place n false m e = refl
    kept_place n true m e = rw e (ap (λ b. if b then Some m else None) (equal n)) where
      equal : (n : ℕ) → (n == n) ≡ true
      equal n = grind (arith, nat_tests)

    -- a place of the new bag, where the old one has none or a message of the wanted length
    stays : (t j : ℕ) → IsServer j → kept want (cell bag.places (w.round + 1) j) ≡ cell bag.places (w.round + 1) j →
        cell new.places t j ≡ cell bag.places t j
    stays t j is same = elim (cases_eq t (w.round + 1)) [
      | inl e ↦
          subst (λ n. cell new.places n j ≡ cell bag.places n j) (sym e)
          (subst (λ n. cell new.places (n + 1) j ≡ kept want (cell bag.places (n + 1) j)) at (turned.next j is) ∙ same)
      | inr other ↦ turned.others t j is (λ e. other (e ∙ ap (λ n. n + 1) at))
    ]

    pub moves-on : Fits next o x after new
    moves-on = record {
      stands = record {
        work = record {
          script = fits.script;
          words = fits.words;
          numbers = fits.numbers;
          rounds = λ t h. elim (below-cases t w.round h) [
            | inl less ↦ fits.rounds t less
            | inr e ↦ rw e (ap (λ (b : Batch). is_end b.act) (sym coming-is) ∙ goes)
          ];
          wires = wires_are ∙ ap (λ n. (standing_at o n).wires w.me) next_round;
          opened = opened_is ∙ ap (λ n. (shared_at o n).opened) next_round;
          dealt = rw add-one (rw handed at fits.dealt);
          drawn = rw add-one (rw handed at fits.drawn);
        };
        mail = λ j may t.
            stays t j (peer-is j w.me may).server
            (ap (kept want) (fits.mail j may (w.round + 1))
            ∙ kept_place want (x j w.me (w.round + 1)) (message_of o j w.me (w.round + 1)) (size_is j)
            ∙ sym (fits.mail j may (w.round + 1)))
            ∙ fits.mail j may t;
        own = λ t lt. stays t w.me server own_stays ∙ fits.own t (rw handed (omega (arith, lt)));
        none = λ t le. stays t w.me server own_stays ∙ fits.none t (rw handed (omega (arith, le)));
        before = λ j may t h. elim (below-cases t w.round h) [
          | inl less ↦ fits.before j may t less
          | inr e ↦ rw e (delivered j may)
        ];
        soon = λ j may t e. let h = fits.soon j may t e in let low = rw handed at h.0 in (omega (arith, low), h.1);
      };
      waits = λ e. absurd (true≢false (sym e));
    }
      where
        own_none : cell bag.places (w.round + 1) w.me ≡ None
        own_none = fits.none (w.round + 1) (rw handed (omega arith))

        own_stays : kept want (cell bag.places (w.round + 1) w.me) ≡ cell bag.places (w.round + 1) w.me
        own_stays = rw own_none refl

module _ {S : Type 0} (next : S → ℕ → List ℕ → Batch) (o : Setup) (x : Delivered ℕ) (c d : Core S) (server : IsServer c.work.me)
    (at : c.mail.round ≡ c.work.round) where
  -- a core that passes a round goes on fitting
  pub after-moving : c.work.handed ≡ true → has_ended next c.work ≡ false → all_there c.mail.places c.work.round ≡ true →
      MovesOn next c d → Stands next o x c.work c.mail → Fits next o x d.work d.mail
  after-moving handed goes all moves fits =
      subst (λ (w : Work S). Fits next o x w d.mail) (sym moves.work)
      (moves-on next o x c.work c.mail server fits handed goes all at d.mail
      (subst (λ (w : Work S). Turned c.mail d.mail (size_of (batch_of next w).act)) moves.work moves.mail))

module _ {S : Type 0} (next : S → ℕ → List ℕ → Batch) (o : Setup) (x : Delivered ℕ) (c d : Core S) (server : IsServer c.work.me)
    (at : c.mail.round ≡ c.work.round)
    (room : 5 * (c.work.round + 2) ≤ length c.mail.places) where
  -- a core that hands out its messages goes on fitting
  pub after-out : c.work.handed ≡ false → has_ended next c.work ≡ false → HandsOut next c d → Fits next o x c.work c.mail →
      Fits next o x d.work d.mail
  after-out handed goes leaves fits =
      let a = hands-out next o x c.work c.mail server fits.stands handed room in
      ⊎_elim
      (λ b. after-moving next o x (handed_out next c) d server at refl goes b.0 b.1 a)
      (λ b. rw b.1 (record {
        stands = a;
        waits = λ h. still-waits next o x (handed_out next c).work (handed_out next c).mail server a h b.0;
      }))
      leaves

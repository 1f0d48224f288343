-- What computes in a server stays sound.
use Rattle.std.proofs.Common.{◌≡◌, ◌+◌, ◌*◌, ◌^◌, ◌<◌, ◌≤◌, ℕ, zero, suc, Bool, true, false, List, [], ◌∷◌, ◌++◌, drop}
use Rattle.std.proofs.Common.{length, refl, sym, ap, ◌∙◌, arith, mul-add, true≢false, length-append}
use Rattle.std.proofs.Math.Nat.{mul-le-mul_left}
use Rattle.beet_field.specs.declared.TheConstants.{MOST_NUMBERS}
use Rattle.beet_words.specs.Tapes.{Tape, left_of}
use Rattle.beet_gates.specs.Clear.{with_lets, is_end}
use Rattle.beet_gates.specs.Scripts.{ActBelow, Standing, LawFrom, BatchStands, LetsBelow, IsWithin, after, acted}
use Rattle.beet_gates.specs.Scripts.{revealed, deals_in, size_of, start_among}
use Rattle.beet_gates.specs.declared.Act.{Act}
use Rattle.beet_gates.specs.declared.Act.TheVariants.{Deal, Mul, Reveal, End}
use Rattle.beet_gates.specs.declared.Batch.{Batch}
use Rattle.beet_gates.proofs.ClearFacts.{length-with_lets, done-after}
use Rattle.beet_gates.proofs.Laws.{law-now, law-next, law-last}
use Rattle.beet_gates.specs.Draws.{draws_in}
use Rattle.beet_server.specs.Sound.{IsSound}
use Rattle.beet_sharing.specs.Steps.{gained_among}

-- how far a batch leads
pub record Leads (s t : Standing) (b : Batch) : Type 0 where
  pub wires : t.wires ≡ s.wires + length b.lets.items + gained_among s.dealers b.act
  pub masks : t.masks ≡ s.masks + deals_in b.act
  pub coefficients : t.coefficients ≡ s.coefficients + draws_in b.act
  pub dealers : t.dealers ≡ s.dealers

pub leads : (s : Standing) (b : Batch) → Leads s (after s b) b
leads s b = by_act b.act where
  by_act : (a : Act) → Leads s (acted (record s { wires = s.wires + length b.lets.items }) a) (record { lets = b.lets; act = a })
  by_act Deal = record { wires = refl; masks = refl; coefficients = refl; dealers = refl }
  by_act (Mul pairs) = record { wires = refl; masks = omega arith; coefficients = refl; dealers = refl }
  by_act (Reveal shown) = record { wires = omega arith; masks = omega arith; coefficients = omega arith; dealers = refl }
  by_act End = record { wires = omega arith; masks = omega arith; coefficients = omega arith; dealers = refl }

few-opened : (a : Act) → revealed a ≤ size_of a
few-opened Deal = omega arith
few-opened (Mul pairs) = omega arith
few-opened (Reveal shown) = omega arith
few-opened End = omega arith

module _ (servers numbers : ℕ) (next : ℕ → List ℕ → Batch) (bounds : Standing) (rounds : ℕ) where
  -- a script begins
  module _ (n : ℕ) (law : LawFrom next bounds rounds (start_among servers n) []) where
    pub first-room : n + length (next 0 []).lets.items ≤ bounds.wires
    first-room =
        let now = law-now next bounds rounds (start_among servers n) [] law in
        omega (arith, now.1.0, (leads (start_among servers n) (next 0 [])).wires)

    pub first-lets : LetsBelow n (next 0 []).lets.items
    first-lets = (law-now next bounds rounds (start_among servers n) [] law).0.0

    pub first-sound : (batch : Batch) (given wires opened : List ℕ) (masks coefficients : Tape) (wire_room opened_room : ℕ) →
        batch ≡ next 0 [] → length given ≡ n → wires ≡ with_lets given batch.lets.items → opened ≡ [] → masks.passed ≡ 0 →
        bounds.masks ≤ length masks.words → numbers * bounds.coefficients ≤ length (left_of coefficients) → bounds.wires ≤ wire_room →
        MOST_NUMBERS * rounds ≤ opened_room → rounds < 2 ^ 32 →
        IsSound servers numbers next bounds rounds batch 0 wires opened masks coefficients false wire_room opened_room
    first-sound batch given wires opened masks coefficients wire_room opened_room comes count is_wires no_opened none
        words drawn room answers small = record {
          coming = rw no_opened comes;
          standing = start_among servers n;
          dealers = refl;
          left = rounds;
          done = refl;
          few = omega arith;
          law = rw no_opened law;
          counted = ap length is_wires ∙ length-with_lets given batch.lets.items ∙ ap (λ k. k + length batch.lets.items) count;
          answers = rw no_opened (omega arith);
          dealt = omega (arith, none);
          words = words;
          drawn = omega (arith, drawn);
          wires_fit = room;
          opened_fit = answers;
          small = small;
        }

  module _ (batch : Batch) (round : ℕ) (wires opened : List ℕ) (masks coefficients : Tape) (handed : Bool) (wire_room opened_room : ℕ)
      (sound : IsSound servers numbers next bounds rounds batch round wires opened masks coefficients handed wire_room opened_room) where
    -- the batch that comes is that of the standing
    at : next sound.standing.done opened ≡ batch
    at = ap (λ k. next k opened) sound.done ∙ sym sound.coming

    now : BatchStands sound.standing batch × IsWithin bounds (after sound.standing batch)
    now = rw at at (law-now next bounds sound.left sound.standing opened sound.law)

    gains : gained_among sound.standing.dealers batch.act ≡ gained_among servers batch.act
    gains = ap (λ n. gained_among n batch.act) sound.dealers

    -- so many numbers for what it counts and what the act draws are as many as for each
    draws : numbers * (sound.standing.coefficients + draws_in batch.act)
        ≡ numbers * sound.standing.coefficients + numbers * draws_in batch.act
    draws = mul-add numbers sound.standing.coefficients (draws_in batch.act)

    -- before the messages are handed out the numbers that may still be drawn are left
    numbers-left : handed ≡ false → numbers * bounds.coefficients ≤ length (left_of coefficients) + numbers * sound.standing.coefficients
    numbers-left h =
        let drawn = rw h at sound.drawn in
        let none : numbers * (sound.standing.coefficients + 0) ≡ numbers * sound.standing.coefficients =
        ap (λ k. numbers * k) (omega arith) in
        omega (arith, drawn, none)

    pub enough : handed ≡ false → numbers * draws_in batch.act ≤ length (left_of coefficients)
    enough h =
        let counted = (leads sound.standing batch).coefficients in
        let within : numbers * (sound.standing.coefficients + draws_in batch.act) ≤ numbers * bounds.coefficients =
        mul-le-mul_left numbers (omega (arith, now.1.2, counted)) in
        omega (arith, numbers-left h, within, draws)

    pub in-wires : ActBelow (length wires) batch.act
    in-wires = rw sound.counted now.0.1

    pub words-left : handed ≡ false → masks.passed + deals_in batch.act ≤ length masks.words
    words-left h =
        let dealt = rw h at sound.dealt in
        omega (arith, dealt, now.1.1, (leads sound.standing batch).masks, sound.words)

    pub small-act : size_of batch.act ≤ MOST_NUMBERS
    small-act = omega (arith, now.0.2)

    -- the messages of the round are handed out
    pub hands-sound : handed ≡ false → (masks' coefficients' : Tape) →
        masks' ≡ record masks { passed = masks.passed + deals_in batch.act } →
        left_of coefficients' ≡ drop (numbers * draws_in batch.act) (left_of coefficients) →
        IsSound servers numbers next bounds rounds batch round wires opened masks' coefficients' true wire_room opened_room
    hands-sound h masks' coefficients' dealt left =
        let before = rw h at sound.dealt in
        let rest : length (left_of coefficients') + numbers * draws_in batch.act ≡ length (left_of coefficients) =
        ap (λ l. length l + numbers * draws_in batch.act) left ∙ dropped (numbers * draws_in batch.act) (left_of coefficients) (enough h) in
        record {
          coming = sound.coming;
          standing = sound.standing;
          dealers = sound.dealers;
          left = sound.left;
          done = sound.done;
          few = sound.few;
          law = sound.law;
          counted = sound.counted;
          answers = sound.answers;
          dealt = ap (λ (t : Tape). t.passed) dealt ∙ omega (arith, before);
          words = rw dealt sound.words;
          drawn = omega (arith, numbers-left h, rest, draws);
          wires_fit = sound.wires_fit;
          opened_fit = sound.opened_fit;
          small = sound.small;
        }
      where
        dropped : (n : ℕ) (xs : List ℕ) → n ≤ length xs → length (drop n xs) + n ≡ length xs
        dropped zero xs h = omega arith
        dropped (suc n) [] h = absurd (omega arith)
        dropped (suc n) (x ∷ xs) h = omega (arith, dropped n xs (omega arith))

    -- where the batch is not the end, more rounds may come
    pub still-going : is_end batch.act ≡ false → round < rounds
    still-going goes = by_left sound.left refl where
      by_left : (k : ℕ) → sound.left ≡ k → round < rounds
      by_left zero e =
          let law = rw e at sound.law in
          let last = rw at at (law-last next bounds sound.standing opened law) in
          absurd (true≢false (sym last ∙ goes))
      by_left (suc n) e = omega (arith, sound.few, e)

    -- there is room for what the act gives and opens
    pub gains-room : length wires + gained_among servers batch.act ≤ wire_room
    gains-room = omega (arith, sound.counted, gains, (leads sound.standing batch).wires, now.1.0, sound.wires_fit)

    pub opens-room : is_end batch.act ≡ false → length opened + revealed batch.act ≤ opened_room
    opens-room goes =
        let few = few-opened batch.act in
        omega (arith, sound.answers, few, small-act, still-going goes, sound.opened_fit)

    -- the round is passed
    module _ (is_handed : handed ≡ true) (goes : is_end batch.act ≡ false) where
      more : (n : ℕ) × (sound.left ≡ suc n) × ((new : List ℕ) → length new ≡ revealed batch.act →
          LawFrom next bounds n (after sound.standing batch) (opened ++ new))
      more = by_left sound.left refl where
        by_left : (k : ℕ) → sound.left ≡ k → (n : ℕ) × (sound.left ≡ suc n) × ((new : List ℕ) →
            length new ≡ revealed batch.act → LawFrom next bounds n (after sound.standing batch) (opened ++ new))
        by_left zero e =
            let law = rw e at sound.law in
            let last = rw at at (law-last next bounds sound.standing opened law) in
            absurd (true≢false (sym last ∙ goes))
        by_left (suc n) e =
            let law = rw e at sound.law in
            (n, e, (rw at at (law-next next bounds n sound.standing opened law)) goes)

      pub not-last : round < rounds
      not-last = omega (arith, sound.few, more.1)

      module _ (wires' opened' new : List ℕ) (count : length wires' ≡ length wires + gained_among servers batch.act)
          (is_opened : opened' ≡ opened ++ new) (revealed_is : length new ≡ revealed batch.act) where
        then_law : LawFrom next bounds more.0 (after sound.standing batch) opened'
        then_law = rw is_opened (more.2 new revealed_is)

        then_at : next (after sound.standing batch).done opened' ≡ next (round + 1) opened'
        then_at = ap (λ k. next k opened') (done-after sound.standing batch goes ∙ ap (λ k. k + 1) sound.done)

        then_now : BatchStands (after sound.standing batch) (next (round + 1) opened')
            × IsWithin bounds (after (after sound.standing batch) (next (round + 1) opened'))
        then_now = rw then_at at (law-now next bounds more.0 (after sound.standing batch) opened' then_law)

        then_count : length wires' ≡ (after sound.standing batch).wires
        then_count = omega (arith, count, sound.counted, gains, (leads sound.standing batch).wires)

        pub next-lets : LetsBelow (length wires') (next (round + 1) opened').lets.items
        next-lets = rw then_count then_now.0.0

        pub next-room : length wires' + length (next (round + 1) opened').lets.items ≤ wire_room
        next-room =
            omega (arith, then_count, then_now.1.0, sound.wires_fit, (leads (after sound.standing batch) (next (round + 1) opened')).wires)

        pub passes-sound : (batch' : Batch) (wires'' : List ℕ) → batch' ≡ next (round + 1) opened' →
            wires'' ≡ with_lets wires' batch'.lets.items →
            IsSound servers numbers next bounds rounds batch' (round + 1) wires'' opened' masks coefficients false wire_room opened_room
        passes-sound batch' wires'' comes is_wires =
            let dealt = rw is_handed at sound.dealt in
            let drawn = rw is_handed at sound.drawn in
            let l = leads sound.standing batch in
            let none : numbers * ((after sound.standing batch).coefficients + 0)
            ≡ numbers * (sound.standing.coefficients + draws_in batch.act) =
            ap (λ k. numbers * k) (omega (arith, l.coefficients)) in
            record {
              coming = comes;
              standing = after sound.standing batch;
              dealers = l.dealers ∙ sound.dealers;
              left = more.0;
              done = done-after sound.standing batch goes ∙ ap (λ k. k + 1) sound.done;
              few = omega (arith, sound.few, more.1);
              law = then_law;
              counted = ap length is_wires ∙ length-with_lets wires' batch'.lets.items ∙ ap (λ k. k + length batch'.lets.items) then_count;
              answers = let few = few-opened batch.act in let small = now.0.2.1 in
                  omega (arith, sound.answers, ap length is_opened, length-append opened new, revealed_is, few, small);
              dealt = omega (arith, dealt, l.masks);
              words = sound.words;
              drawn = omega (arith, drawn, none);
              wires_fit = sound.wires_fit;
              opened_fit = sound.opened_fit;
              small = sound.small;
            }

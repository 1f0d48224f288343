-- A core that starts.
use Rattle.std.proofs.Common.{◌≡◌, ℕ, false, true≢false, List, [], ◌∷◌, ◌++◌, take, length, refl, sym, ap, ◌∙◌, arith}
use Rattle.std.proofs.Common.{append-nil, append_assoc}
use Rattle.beet_field.specs.declared.point.Point.{Point}
use Rattle.beet_words.specs.Tapes.{Tape}
use Rattle.beet_words.proofs.DrawnFrom.{none-passed}
use Rattle.beet_gates.specs.Clear.{with_lets, let_of}
use Rattle.beet_gates.specs.Scripts.{size_of}
use Rattle.beet_gates.specs.declared.Batch.{Batch}
use Rattle.beet_gates.specs.declared.Linear.{Linear}
use Rattle.beet_gates.proofs.EachFacts.{each-zero}
use Rattle.beet_round.specs.Boxes.{Mailbox, fresh_box}
use Rattle.beet_round.specs.declared.message.RoundMessage.{RoundMessage}
use Rattle.beet_round.specs.declared.sides.Side.TheVariants.{Low, High}
use Rattle.beet_sharing.specs.Runs.{Setup}
use Rattle.beet_delivery.specs.Events.{nothing}
use Rattle.beet_server.specs.Cores.{fresh, IsFresh}
use Rattle.beet_server.specs.Fits.{Fits, OpensAt, messages_to}
use Rattle.beet_server.specs.Steps.{Work, core_of, batch_of}
use Rattle.beet_sharing.proofs.Lined.{member-each}

-- lets stand after the wires
lets-after : (wires : List ℕ) (lets : List Linear) → (rest : List ℕ) × (with_lets wires lets ≡ wires ++ rest)
lets-after wires [] = ([], sym (append-nil wires))
lets-after wires (l ∷ ls) =
    let more = lets-after (wires ++ let_of wires l ∷ []) ls in
    (let_of wires l ∷ more.0, more.1 ∙ append_assoc wires (let_of wires l ∷ []) more.0)

front : (xs ys : List ℕ) → take (length xs) (xs ++ ys) ≡ xs
front [] ys = refl
front (x ∷ xs) ys = ap (λ l. x ∷ l) (front xs ys)

pub first-wires : (wires : List ℕ) (lets : List Linear) → take (length wires) (with_lets wires lets) ≡ wires
first-wires wires lets = let more = lets-after wires lets in rw more.1 (front wires more.0)

-- a tape of which no word is passed
abbrev start_of : List ℕ → Tape
start_of words = record { words = words; passed = 0 }

at-first : (t : Tape) → t.passed ≡ 0 → start_of t.words ≡ t
at-first t e = ap (λ n. record t { passed = n }) (sym e)

module _ {S : Type 0} (next : S → ℕ → List ℕ → Batch) (me : Point) (script : S) (inputs : List ℕ) (masks coefficients : Tape) where
  -- the core that starts is the fresh one
  pub started : (w : Work S) (received : List (List RoundMessage)) (mail : Mailbox) (n : ℕ) →
      w ≡ record {
        me = me;
        script = script;
        masks = masks;
        coefficients = coefficients;
        round = 0;
        wires = with_lets inputs (next script 0 []).lets.items;
        opened = [];
        own = [];
        handed = false;
      } → received ≡ [] → mail ≡ fresh_box me n → n ≡ size_of (batch_of next w).act →
      core_of w received mail ≡ fresh next me script inputs masks coefficients
  started w received mail n e none box size =
      let is_box : mail ≡ fresh_box me (size_of (next script 0 []).act) =
      box ∙ ap (fresh_box me) (size ∙ ap (λ (v : Work S). size_of (batch_of next v).act) e) in
      λ i. core_of (e i) (none i) (is_box i)

  module _ (no_mask : masks.passed ≡ 0) (no_number : coefficients.passed ≡ 0) where
    pub is-fresh : (inputs_of : S → ℕ) → length inputs ≡ inputs_of script →
        IsFresh next inputs_of (fresh next me script inputs masks coefficients)
    is-fresh inputs_of count =
        let given = first-wires inputs (next script 0 []).lets.items in
        rw (← count, given, at-first masks no_mask, at-first coefficients no_number) refl

    -- it fits every run that begins with its script, inputs, words and numbers
    pub begins : (o : Setup) → OpensAt next o me script inputs masks.words coefficients.words →
        Fits next o nothing (fresh next me script inputs masks coefficients)
    begins o opens = record {
      stands = record {
        work = record {
          script = opens.has_script;
          words = sym opens.has_words;
          numbers = sym opens.has_numbers;
          rounds = λ t h. absurd (omega (arith, h));
          wires = rw (← opens.has_inputs, ← opens.has_script)
              (sym (member-each (λ (points : List ℕ). with_lets points (o.next 0 []).lets.items) o.inputs me));
          opened = refl;
          dealt = no_mask;
          drawn = no_number ∙ sym (none-passed coefficients.words);
          own = refl;
        };
        received = sym (each-zero (messages_to o me));
        now = elim [ Low ↦ refl | High ↦ refl ];
        early = elim [ Low ↦ refl | High ↦ refl ];
        before = λ s t h. absurd (omega (arith, h));
        soon = λ s t e. absurd (true≢false (sym e));
      };
      waits = λ e. absurd (true≢false (sym e));
    }

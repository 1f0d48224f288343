-- A core that starts.
use Rattle.std.proofs.Common.{◌≡◌, ◌+◌, ◌*◌, ℕ, true≢false, List, Option, None, sym, refl, ◌∙◌, arith, inl, inr}
use Rattle.std.proofs.lemmas.Bool.{cases_lt}
use Rattle.std.proofs.lemmas.List.{get_or-replicate, length-replicate}
use Rattle.std.proofs.Math.ListN.{get_or-eq_default}
use Rattle.std.specs.Prelude.{replicate}
use Rattle.beet_words.specs.Tapes.{Tape}
use Rattle.beet_words.proofs.DrawnFrom.{none-passed}
use Rattle.beet_gates.specs.declared.Batch.{Batch}
use Rattle.beet_delivery.specs.Networks.{nothing}
use Rattle.beet_linear_sharing.specs.Runs.{Setup}
use Rattle.beet_five_server.specs.Answers.{fresh_core}
use Rattle.beet_five_server.specs.Fits.{Fits, OpensAt}
use Rattle.beet_five_server.specs.Mails.{cell, place_of}
use Rattle.beet_five_server.specs.declared.mail.FiveMessage.{FiveMessage}

-- no message is there
none-there : (n t j : ℕ) → cell (replicate n None) t j ≡ None
none-there n t j = elim (cases_lt (place_of t j) n) [
  | inl lt ↦ get_or-replicate n (place_of t j) None None lt
  | inr le ↦ get_or-eq_default (replicate n None) None (omega (arith, le, length-replicate {A = Option FiveMessage} n None))
]

module _ {S : Type 0} (next : S → ℕ → List ℕ → Batch) (me : ℕ) (script : S) (inputs : List ℕ) (masks coefficients : Tape) (rounds : ℕ)
    (no_mask : masks.passed ≡ 0) (no_number : coefficients.passed ≡ 0) where
  -- it fits every run that begins with its script, inputs, words and numbers
  pub begins : (o : Setup) → OpensAt next o me script inputs masks.words coefficients.words →
      Fits next o nothing (fresh_core next me script inputs masks coefficients rounds).work
      (fresh_core next me script inputs masks coefficients rounds).mail
  begins o opens = record {
    stands = record {
      work = record {
        script = opens.has_script;
        words = sym opens.has_words;
        numbers = sym opens.has_numbers;
        rounds = λ t h. absurd (omega (arith, h));
        wires = rw (← opens.has_inputs, ← opens.has_script) refl;
        opened = refl;
        dealt = no_mask;
        drawn = no_number ∙ sym (none-passed coefficients.words);
      };
      mail = λ j may t. none-there (5 * (rounds + 2)) t j;
      own = λ t lt. absurd (omega (arith, lt));
      none = λ t le. none-there (5 * (rounds + 2)) t me;
      before = λ j may t h. absurd (omega (arith, h));
      soon = λ j may t e. absurd (true≢false (sym e));
    };
    waits = λ e. absurd (true≢false (sym e));
  }

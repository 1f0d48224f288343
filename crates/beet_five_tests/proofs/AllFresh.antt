-- Five servers that begin.
use Rattle.std.proofs.Common.{◌≡◌, ◌-◌, ◌∷◌, [], ℕ, zero, suc, List, Some, slice_get, refl, ap, subst}
use Rattle.std.specs.Prelude.{Result, Ok, IfOk}
use Rattle.beet_words.specs.Tapes.{Tape}
use Rattle.beet_plan.specs.FivePlan.{FiveAuction, five_batch, most_rounds}
use Rattle.beet_five_server.specs.Answers.{Core, fresh_core}
use Rattle.beet_five_server.specs.Parts.{by_sender}
use Rattle.beet_five_server.proofs.MailFacts.{by-server}
use Rattle.beet_five_world.specs.Members.{AreFresh}
use Rattle.beet_five_tests.specs.Fresh.{IsFresh}

-- what holds of a value that is there
pub in-ok : {A E : Type 0} → (P : A → Type 0) (r : Result A E) (x : A) → r ≡ Ok x → IfOk r P → P x
in-ok P r x e h = subst (λ s. IfOk s P) e h

of-each : {A : Type 0} → (P : A → Type 0) (a b c d e : A) → P a → P b → P c → P d → P e → (k : ℕ) → P (by_sender a b c d e k)
of-each P a b c d e p q r s t zero = p
of-each P a b c d e p q r s t (suc zero) = p
of-each P a b c d e p q r s t (suc (suc zero)) = q
of-each P a b c d e p q r s t (suc (suc (suc zero))) = r
of-each P a b c d e p q r s t (suc (suc (suc (suc zero)))) = s
of-each P a b c d e p q r s t (suc (suc (suc (suc (suc k))))) = t

pub all-fresh : (script : FiveAuction) (a b c d e : Core FiveAuction) → IsFresh 1 script a → IsFresh 2 script b → IsFresh 3 script c →
    IsFresh 4 script d → IsFresh 5 script e → AreFresh five_batch most_rounds (a ∷ b ∷ c ∷ d ∷ e ∷ [])
all-fresh script a b c d e f g h i j =
    let inputs : ℕ → List ℕ = by_sender f.inputs g.inputs h.inputs i.inputs j.inputs in
    let masks : ℕ → Tape = by_sender f.masks g.masks h.masks i.masks j.masks in
    let numbers : ℕ → Tape = by_sender f.coefficients g.coefficients h.coefficients i.coefficients j.coefficients in
    record {
      count = refl;
      script = script;
      inputs = inputs;
      masks = masks;
      coefficients = numbers;
      no_mask = of-each (λ (t : Tape). t.passed ≡ 0) f.masks g.masks h.masks i.masks j.masks
          f.no_mask g.no_mask h.no_mask i.no_mask j.no_mask;
      no_number = of-each (λ (t : Tape). t.passed ≡ 0) f.coefficients g.coefficients h.coefficients i.coefficients j.coefficients
          f.no_number g.no_number h.no_number i.no_number j.no_number;
      are = by-server (λ k. slice_get (a ∷ b ∷ c ∷ d ∷ e ∷ []) (k - 1)
          ≡ Some (fresh_core five_batch k script (inputs k) (masks k) (numbers k) (most_rounds script)))
          (ap (λ z. Some z) f.is) (ap (λ z. Some z) g.is) (ap (λ z. Some z) h.is) (ap (λ z. Some z) i.is) (ap (λ z. Some z) j.is);
    }

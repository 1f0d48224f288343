-- The messages of the rounds that a core has passed.
use Rattle.std.proofs.Common.{◌≡◌, ◌<◌, ℕ, List, Some, true, ap, ◌∙◌}
use Rattle.std.specs.Prelude.{option_map}
use Rattle.beet_gates.specs.declared.Batch.{Batch}
use Rattle.beet_delivery.specs.Networks.{Delivered}
use Rattle.beet_linear_sharing.specs.Runs.{Setup}
use Rattle.beet_five_server.specs.Cores.{Work}
use Rattle.beet_five_server.specs.Fits.{Fits, message_of, some_if}
use Rattle.beet_five_server.specs.Mails.{Mailbag}
use Rattle.beet_five_server.specs.Network.{sends_to}
use Rattle.beet_five_server.specs.Received.{numbers_from}
use Rattle.beet_five_server.specs.Runs.{message}
use Rattle.beet_five_server.specs.declared.mail.FiveMessage.{FiveMessage}

pub passed-received : {S : Type 0} (next : S → ℕ → List ℕ → Batch) (o : Setup) (x : Delivered ℕ) (w : Work S) (bag : Mailbag) →
    Fits next o x w bag → (j t : ℕ) → sends_to j w.me ≡ true → t < w.round → numbers_from bag j t ≡ Some (message o j w.me t)
passed-received next o x w bag f j t may lt =
    let there = f.mail j may t ∙ ap (λ b. some_if b (message_of o j w.me t)) (f.before j may t lt) in
    ap (option_map (λ (m : FiveMessage). m.numbers.items)) there

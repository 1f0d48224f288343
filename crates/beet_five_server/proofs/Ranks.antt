-- The message of a server's round to a peer, among its four.
use Rattle.std.proofs.Common.{◌≡◌, ℕ, Some, slice_get, refl}
use Rattle.beet_weights.specs.Quadratics.{IsServer}
use Rattle.beet_linear_sharing.specs.Runs.{Setup}
use Rattle.beet_five_server.specs.Fits.{message_of, messages_from}
use Rattle.beet_five_server.specs.Network.{rank}
use Rattle.beet_five_server.proofs.MailFacts.{by-peers}

-- it is at the peer's place
pub at-rank : (o : Setup) (from to t : ℕ) → IsServer from → IsServer to → (from ≡ to → ⊥) →
    slice_get (messages_from o from t) (rank from to) ≡ Some (message_of o from to t)
at-rank o from to t =
    by-peers (λ f g. slice_get (messages_from o f t) (rank f g) ≡ Some (message_of o f g t)) refl refl refl refl refl refl refl refl refl
    refl refl refl refl refl refl refl refl refl refl refl from to

-- What a core makes of the next message of a link.
use Rattle.std.proofs.Common.{◌≡◌, ◌≤◌, ◌+◌, ℕ, List, Some, slice_get, subst}
use Rattle.beet_gates.specs.declared.Batch.{Batch}
use Rattle.beet_round.specs.Sides.{peer}
use Rattle.beet_round.specs.declared.mailbox.Verdict.{Verdict}
use Rattle.beet_round.specs.declared.message.RoundMessage.{RoundMessage}
use Rattle.beet_round.specs.declared.sides.Side.{Side}
use Rattle.beet_sharing.specs.Runs.{HasRounds, Setup}
use Rattle.beet_delivery.specs.Events.{Delivered, with_triple}
use Rattle.beet_server.specs.Cores.{Core}
use Rattle.beet_server.specs.Fits.{Fits}
use Rattle.beet_server.proofs.Passing.{is_round}
use Rattle.beet_link.specs.Ends.{LinkEnd}
use Rattle.beet_link.specs.Streams.{stream}
use Rattle.beet_link.proofs.StreamFacts.{stream-only}
use Rattle.beet_station.specs.Stations.{HasHeard}

-- the core fits the run with this message more
pub fits-heard : {S : Type 0} (next : S → ℕ → List ℕ → Batch) (c d : Core S) (from : LinkEnd) (v : Verdict) → HasHeard next c d from v →
    (o : Setup) (rounds : ℕ) (x : Delivered) (side : Side) → HasRounds o rounds → Fits next o x c →
    from.stream ≡ stream o rounds (peer c.me side) c.me →
    from.moved ≤ c.round + 1 → Fits next o (with_triple x (record { from = peer c.me side; to = c.me; round = from.moved })) d
fits-heard next c d from v h o rounds x side has f streams near =
    let at : slice_get (stream o rounds (peer c.me side) c.me) from.moved ≡ Some h.message =
    subst (λ (l : List RoundMessage). slice_get l from.moved ≡ Some h.message) streams h.is_next in
    let only = stream-only o rounds (peer c.me side) c.me from.moved h.message at in
    h.fits o x side from.moved f only.1 ((is_round o rounds from.moved has).1 only.0) near

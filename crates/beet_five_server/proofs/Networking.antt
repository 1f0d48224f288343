-- Five servers are a network.
use Rattle.std.proofs.Common.{◌≡◌, ◌==◌, ℕ, cond, refl, sym, arith}
use Rattle.std.proofs.lemmas.Bool.{eq-eqb, eqb-true}
use Rattle.std.specs.Prelude.{count_by}
use Rattle.beet_delivery.specs.Networks.{triples_of}
use Rattle.beet_delivery.proofs.NetworkFacts.{IsNetwork, is_at}
use Rattle.beet_weights.specs.Quadratics.{IsServer}
use Rattle.beet_five_server.specs.Network.{five}
use Rattle.beet_five_server.proofs.MailFacts.{by-peers}
use Rattle.beet_five_server.proofs.Peers.{five-heard, five-hears, peer-is, peer-sends}

-- a message to a peer is once among those of its round
abbrev HasOne : ℕ → ℕ → ℕ → ℕ → Type 0
HasOne k t f g = count_by (is_at five (record { from = f; to = g; round = k })) (triples_of five t) ≡ cond (t == k) 1 0

has_one : (k t f g : ℕ) → IsServer f → IsServer g → (f ≡ g → ⊥) → HasOne k t f g
has_one k t =
    by-peers (HasOne k t) (omega arith) (omega arith) (omega arith) (omega arith) (omega arith) (omega arith) (omega arith) (omega arith)
    (omega arith) (omega arith) (omega arith) (omega arith) (omega arith) (omega arith) (omega arith) (omega arith) (omega arith)
    (omega arith) (omega arith) (omega arith)

pub five-is : IsNetwork five
five-is = record {
  same_is = λ a b e. eqb-true a b e;
  same_self = λ a. eq-eqb a a refl;
  back = λ a b e. let peer = peer-is a b e in peer-sends b a peer.mine peer.server (λ same. peer.other (sym same));
  hears = five-hears;
  heard = five-heard;
  once = λ e t may. let peer = peer-is e.from e.to may in has_one e.round t e.from e.to peer.server peer.mine peer.other;
}

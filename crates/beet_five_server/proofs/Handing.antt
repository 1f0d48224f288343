-- What is of a sender, and what a server sends.
use Rattle.std.proofs.Common.{◌≡◌, ◌+◌, ◌++◌, ℕ, List, map, length, refl, ◌∙◌, false}
use Rattle.std.proofs.lemmas.List.{length-map}
use Rattle.std.specs.Int.{bit_at}
use Rattle.beet_gates.proofs.EachFacts.{length-each}
use Rattle.beet_gates.specs.Clear.{product_of, with_lets}
use Rattle.beet_gates.specs.Scripts.{size_of}
use Rattle.beet_gates.specs.declared.Act.{Act}
use Rattle.beet_gates.specs.declared.Act.TheVariants.{Deal, Mul, Reveal, End}
use Rattle.beet_gates.specs.declared.Batch.{Batch}
use Rattle.beet_weights.specs.Quadratics.{IsServer}
use Rattle.beet_five_server.specs.Answers.{messages_out}
use Rattle.beet_five_server.specs.Cores.{Work, batch_of, passing, sends}
use Rattle.beet_five_server.specs.Network.{peers}
use Rattle.beet_five_server.specs.Parts.{by_sender, numbers_for, numbers_opened, points_given}
use Rattle.beet_five_server.specs.declared.mail.FiveMessage.{FiveMessage}
use Rattle.beet_five_server.proofs.MailFacts.{by-server}

-- a message has the size of its batch
length-numbers_for : (a : Act) (points : List ℕ) (word : ℕ) (drawn : List ℕ) (to : ℕ) →
    length (numbers_for a points word drawn to) ≡ size_of a
length-numbers_for Deal points word drawn to = length-each _ _ ∙ length-each (bit_at word) 61
length-numbers_for (Mul pairs) points word drawn to = length-each _ _ ∙ length-map pairs.items (product_of points)
length-numbers_for (Reveal shown) points word drawn to = length-map shown.items _
length-numbers_for End points word drawn to = refl

pub sender-is : (f : ℕ → List ℕ) (j : ℕ) → IsServer j → by_sender (f 1) (f 2) (f 3) (f 4) (f 5) j ≡ f j
sender-is f = by-server (λ j. by_sender (f 1) (f 2) (f 3) (f 4) (f 5) j ≡ f j) refl refl refl refl refl

given-same : (a : Act) (f : ℕ → List ℕ) → points_given a (by_sender (f 1) (f 2) (f 3) (f 4) (f 5)) ≡ points_given a f
given-same Deal f = refl
given-same (Mul pairs) f = refl
given-same (Reveal shown) f = refl
given-same End f = refl

opened-same : (a : Act) (f : ℕ → List ℕ) → numbers_opened a (by_sender (f 1) (f 2) (f 3) (f 4) (f 5)) ≡ numbers_opened a f
opened-same Deal f = refl
opened-same (Mul pairs) f = refl
opened-same (Reveal shown) f = refl
opened-same End f = refl

module _ {S : Type 0} (next : S → ℕ → List ℕ → Batch) (w : Work S) where
  -- a round is passed with the same numbers
  pub passing-same : (f : ℕ → List ℕ) → passing next w (by_sender (f 1) (f 2) (f 3) (f 4) (f 5)) ≡ passing next w f
  passing-same f =
      let a = (batch_of next w).act in
      λ i. record w {
        round = w.round + 1;
        wires = with_lets (w.wires ++ given-same a f i) (next w.script (w.round + 1) (w.opened ++ opened-same a f i)).lets.items;
        opened = w.opened ++ opened-same a f i;
        handed = false;
      }

  -- a message of the round
  abbrev pub the_message : ℕ → List ℕ → FiveMessage
  the_message to numbers = record { from = w.me; to = to; round = w.round; numbers = record { items = numbers } }

  -- the numbers to the five servers, as messages to the peers
  pub addressed : IsServer w.me →
      map (λ to. the_message to (by_sender (sends next w 1) (sends next w 2) (sends next w 3) (sends next w 4) (sends next w 5) to))
      (peers w.me)
      ≡ messages_out next w
  addressed server =
      by-server (λ me. map
      (λ to. the_message to (by_sender (sends next w 1) (sends next w 2) (sends next w 3) (sends next w 4) (sends next w 5) to))
      (peers me)
      ≡ map (λ to. the_message to (sends next w to)) (peers me)) refl refl refl refl refl w.me server

  pub length-sends : (to : ℕ) → length (sends next w to) ≡ size_of (batch_of next w).act
  length-sends to = length-numbers_for (batch_of next w).act _ _ _ to

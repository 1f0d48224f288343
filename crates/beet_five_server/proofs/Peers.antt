-- The other servers, and what all of them have sent.
use Rattle.std.proofs.Common.{◌≡◌, ◌&&◌, ◌==◌, ℕ, Bool, true, false, true≢false, not, List, [], ◌∷◌, is_some, sym, refl, ap}
use Rattle.std.proofs.Common.{◌∙◌, ◌⊎◌, inl, inr, ⊎_elim, arith}
use Rattle.std.proofs.lemmas.Bool.{and_parts, and_from, cases_Bool, cases_eq, cond-true, cond-false, eq-eqb}
use Rattle.std.proofs.lemmas.Bool.{leb-true, le-leb, ne_eqb, not-true, not_from_false}
use Rattle.std.specs.Prelude.{filter}
use Rattle.beet_delivery.specs.Networks.{Delivered, all_in, in_from}
use Rattle.beet_weights.specs.Quadratics.{IsServer, servers}
use Rattle.beet_five_server.specs.Mails.{all_there, cell}
use Rattle.beet_five_server.specs.Network.{five, is_server, sends_to}
use Rattle.beet_five_server.proofs.MailFacts.{Places, by-server}

pub server-true : (j : ℕ) → IsServer j → is_server j ≡ true
server-true j h = and_from _ _ (le-leb 1 j h.0) (le-leb j 5 h.1)

pub server-is : (j : ℕ) → is_server j ≡ true → IsServer j
server-is j h = let b = and_parts _ _ h in (leb-true 1 j b.0, leb-true j 5 b.1)

-- a peer is another server
pub record IsPeer (j me : ℕ) : Type 0 where
  pub server : IsServer j
  pub mine : IsServer me
  pub other : j ≡ me → ⊥

pub peer-is : (j me : ℕ) → sends_to j me ≡ true → IsPeer j me
peer-is j me h =
    let a = and_parts (is_server j && is_server me) (not (j == me)) h in
    let b = and_parts (is_server j) (is_server me) a.0 in
    record {
      server = server-is j b.0;
      mine = server-is me b.1;
      other = λ e. true≢false (sym (eq-eqb j me e) ∙ not-true (j == me) a.1);
    }

pub peer-sends : (j me : ℕ) → IsServer j → IsServer me → (j ≡ me → ⊥) → sends_to j me ≡ true
peer-sends j me a b other =
    and_from (is_server j && is_server me) (not (j == me)) (and_from (is_server j) (is_server me) (server-true j a) (server-true me b))
    (not_from_false (j == me) (ne_eqb j me other))

-- each server has one
pub some-peer : (me : ℕ) → IsServer me → (j : ℕ) × (sends_to j me ≡ true)
some-peer = by-server (λ me. (j : ℕ) × (sends_to j me ≡ true)) (2, refl) (1, refl) (1, refl) (1, refl) (1, refl)

-- a server is the one itself or a peer
pub peer-or : (j me : ℕ) → IsServer j → IsServer me → (j ≡ me) ⊎ (sends_to j me ≡ true)
peer-or j me a b = elim (cases_eq j me) [
  | inl e ↦ inl e
  | inr other ↦ inr (peer-sends j me a b other)
]

in-cons : (x : Delivered ℕ) (s t j : ℕ) (js : List ℕ) → in_from x s t (j ∷ js) ≡ (x j s t && in_from x s t js)
in-cons x s t j [] = whole (x j s t) where
  whole : (b : Bool) → b ≡ (b && true)
  whole true = refl
  whole false = refl
in-cons x s t j (k ∷ js) = refl

hears-list : (x : Delivered ℕ) (s t : ℕ) (p : ℕ → Bool) → ((j : ℕ) → p j ≡ true → x j s t ≡ true) → (js : List ℕ) →
    in_from x s t (filter p js) ≡ true
hears-list x s t p all [] = refl
hears-list x s t p all (j ∷ js) = elim (cases_Bool (p j)) [
  | inl w ↦
      ap (in_from x s t) (cond-true (p j) (j ∷ filter p js) (filter p js) w) ∙ in-cons x s t j (filter p js)
      ∙ and_from _ _ (all j w) (hears-list x s t p all js)
  | inr w ↦ ap (in_from x s t) (cond-false (p j) (j ∷ filter p js) (filter p js) w) ∙ hears-list x s t p all js
]

abbrev Among : ℕ → List ℕ → Type 0
Among j [] = ⊥
Among j (k ∷ ks) = (j ≡ k) ⊎ Among j ks

heard-list : (x : Delivered ℕ) (s t : ℕ) (p : ℕ → Bool) (j : ℕ) → p j ≡ true → (js : List ℕ) → Among j js →
    in_from x s t (filter p js) ≡ true → x j s t ≡ true
heard-list x s t p j may [] there h = absurd there
heard-list x s t p j may (k ∷ js) there h = elim (cases_Bool (p k)) [
  | inl w ↦
      let both = and_parts (x k s t) (in_from x s t (filter p js))
      (sym (in-cons x s t k (filter p js)) ∙ sym (ap (in_from x s t) (cond-true (p k) (k ∷ filter p js) (filter p js) w)) ∙ h) in
      ⊎_elim (λ (e : j ≡ k). ap (λ i. x i s t) e ∙ both.0) (λ more. heard-list x s t p j may js more both.1) there
  | inr w ↦
      let rest = sym (ap (in_from x s t) (cond-false (p k) (k ∷ filter p js) (filter p js) w)) ∙ h in
      ⊎_elim (λ (e : j ≡ k). absurd (true≢false (sym may ∙ ap p e ∙ w))) (λ more. heard-list x s t p j may js more rest) there
]

among-servers : (j : ℕ) → IsServer j → Among j servers
among-servers =
    by-server (λ j. Among j servers) (inl refl) (inr (inl refl)) (inr (inr (inl refl))) (inr (inr (inr (inl refl))))
    (inr (inr (inr (inr (inl refl)))))

pub five-hears : (x : Delivered ℕ) (s t : ℕ) → ((j : ℕ) → sends_to j s ≡ true → x j s t ≡ true) → all_in five x s t ≡ true
five-hears x s t all = hears-list x s t (λ j. sends_to j s) all servers

pub five-heard : (x : Delivered ℕ) (s t : ℕ) → all_in five x s t ≡ true → (j : ℕ) → sends_to j s ≡ true → x j s t ≡ true
five-heard x s t h j may = heard-list x s t (λ j. sends_to j s) j may servers (among-servers j (peer-is j s may).server) h

-- all five messages of a round are there
pub there-all : (places : Places) (t : ℕ) → ((j : ℕ) → IsServer j → is_some (cell places t j) ≡ true) → all_there places t ≡ true
there-all places t all =
    and_from _ _ (all 1 (omega arith, omega arith))
    (and_from _ _ (all 2 (omega arith, omega arith)) (and_from _ _ (all 3 (omega arith, omega arith))
    (and_from _ _ (all 4 (omega arith, omega arith)) (and_from _ _ (all 5 (omega arith, omega arith)) refl))))

pub there-each : (places : Places) (t : ℕ) → all_there places t ≡ true → (j : ℕ) → IsServer j → is_some (cell places t j) ≡ true
there-each places t h =
    let one = and_parts _ _ h in
    let two = and_parts _ _ one.1 in
    let three = and_parts _ _ two.1 in
    let four = and_parts _ _ three.1 in
    let five = and_parts _ _ four.1 in
    by-server (λ j. is_some (cell places t j) ≡ true) one.0 two.0 three.0 four.0 five.0

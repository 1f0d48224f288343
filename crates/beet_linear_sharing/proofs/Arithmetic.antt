-- The arithmetic of five servers.
use Rattle.std.proofs.Common.{◌≡◌, ◌+◌, ◌*◌, ◌%◌, ◌/◌, inl, inr, ℕ, [], ◌∷◌, refl, arith}
use Rattle.beet_field.specs.Field.{p}
use Rattle.beet_field.proofs.Modular.{mul_same}
use Rattle.beet_weights.specs.Quadratics.{IsServer}
use Rattle.beet_weights.specs.Weights.{five_weights, three_weights, weighted}
use Rattle.beet_weights.proofs.Laws.{recombined-point, reshared-points, reshared-products}
use Rattle.beet_linear_sharing.specs.Sharings.{IsAmong}
use Rattle.beet_linear_sharing.specs.Schemes.{five_servers}
use Rattle.beet_linear_sharing.proofs.Laws.{SharingLaws, IsPlace}

-- the five servers by their bounds, and one by one
pub among-bounds : (i : ℕ) → IsServer i → IsAmong five_servers.servers i
among-bounds i h = grind (arith, h.0, h.1)

pub bounds-among : (i : ℕ) → IsAmong five_servers.servers i → IsServer i
bounds-among i (inl e) = (omega (arith, e), omega (arith, e))
bounds-among i (inr (inl e)) = (omega (arith, e), omega (arith, e))
bounds-among i (inr (inr (inl e))) = (omega (arith, e), omega (arith, e))
bounds-among i (inr (inr (inr (inl e)))) = (omega (arith, e), omega (arith, e))
bounds-among i (inr (inr (inr (inr (inl e))))) = (omega (arith, e), omega (arith, e))
bounds-among i (inr (inr (inr (inr (inr e))))) = absurd e

-- the places of numbers of which each secret takes two
five-place : (n : ℕ) → IsPlace five_servers n
five-place n = record { secret = n / 2; number = n % 2; small = omega arith; is = omega arith }

-- a multiple of a rest
times-rest : (k x : ℕ) → (k * (x % p)) % p ≡ (k * x) % p
times-rest k x = mul_same k (x % p) k x refl (omega arith)

five-multiple : (k v w f0 f1 g0 g1 i : ℕ) → IsAmong five_servers.servers i →
    ((k * v + w) % p + (k * f0 + g0) % p * i + (k * f1 + g1) % p * (i * i)) % p
    ≡ (k * ((v + f0 * i + f1 * (i * i)) % p) + (w + g0 * i + g1 * (i * i)) % p) % p
five-multiple k v w f0 f1 g0 g1 i (inl e) = let t = times-rest k (v + f0 * 1 + f1 * 1) in rw e (omega (arith, t))
five-multiple k v w f0 f1 g0 g1 i (inr (inl e)) = let t = times-rest k (v + f0 * 2 + f1 * 4) in rw e (omega (arith, t))
five-multiple k v w f0 f1 g0 g1 i (inr (inr (inl e))) = let t = times-rest k (v + f0 * 3 + f1 * 9) in rw e (omega (arith, t))
five-multiple k v w f0 f1 g0 g1 i (inr (inr (inr (inl e)))) = let t = times-rest k (v + f0 * 4 + f1 * 16) in rw e (omega (arith, t))
five-multiple k v w f0 f1 g0 g1 i (inr (inr (inr (inr (inl e))))) = let t = times-rest k (v + f0 * 5 + f1 * 25) in rw e (omega (arith, t))
five-multiple k v w f0 f1 g0 g1 i (inr (inr (inr (inr (inr e))))) = absurd e

five-constant : (k v f0 f1 i : ℕ) → ((k + v) % p + f0 * i + f1 * (i * i)) % p ≡ (k + (v + f0 * i + f1 * (i * i)) % p) % p
five-constant k v f0 f1 i = omega arith

pub five-laws : SharingLaws five_servers
five-laws = record {
  place_of = five-place;
  share_same = λ v i f g same.
      let zeroth = same 0 (omega arith) in
      let first = same 1 (omega arith) in
      λ x. (v + zeroth x * i + first x * (i * i)) % p;
  reshared_same = λ f g same.
      let one = same 1 (inl refl) in
      let two = same 2 (inr (inl refl)) in
      let three = same 3 (inr (inr (inl refl))) in
      let four = same 4 (inr (inr (inr (inl refl)))) in
      let five = same 5 (inr (inr (inr (inr (inl refl))))) in
      λ x. weighted five_weights (one x ∷ two x ∷ three x ∷ four x ∷ five x ∷ []) % p;
  opened_same = λ f g same.
      let one = same 1 (inl refl) in
      let two = same 2 (inr (inl refl)) in
      let three = same 3 (inr (inr (inl refl))) in
      λ x. weighted three_weights (one x ∷ two x ∷ three x ∷ []) % p;
  nothing = λ i at. omega arith;
  constant = λ k v i f at. five-constant k v (f 0) (f 1) i;
  multiple = λ k v w i f g at. five-multiple k v w (f 0) (f 1) (g 0) (g 1) i at;
  reshares = λ x r i at. reshared-points x (λ j. r j 0) (λ j. r j 1) i;
  products = λ v w f g. reshared-products v (f 0) (f 1) w (g 0) (g 1);
  opens = λ v f h. recombined-point v (f 0) (f 1) h;
}

-- What is asked of a way to share.
use Rattle.std.proofs.Common.{◌≡◌, ◌<◌, ◌≤◌, ◌+◌, ◌*◌, ◌%◌, ◌⊎◌, ⊎_elim, ℕ, suc, ap, arith, mul-suc, mul-le-mul_left}
use Rattle.beet_field.specs.Field.{p, IsElement, mul_of}
use Rattle.beet_linear_sharing.specs.Sharings.{Sharing, IsAmong}
use Rattle.beet_gates.proofs.EachFacts.{below_or}
use Rattle.beet_gates.proofs.ClearAt.{less-or}

-- the place of a number in a list of which each secret takes as many
pub record IsPlace (q : Sharing) (n : ℕ) : Type 0 where
  pub secret : ℕ
  pub number : ℕ
  pub small : number < q.degree
  pub is : q.degree * secret + number ≡ n

pub record SharingLaws (q : Sharing) : Type 0 where
  -- each number has its place
  pub place_of : (n : ℕ) → IsPlace q n
  -- a point depends on the numbers that hide the secret alone, and what is put together on the servers' numbers alone
  pub share_same : (v i : ℕ) (f g : ℕ → ℕ) → ((m : ℕ) → m < q.degree → f m ≡ g m) → q.share v f i ≡ q.share v g i
  pub reshared_same : (f g : ℕ → ℕ) → ((j : ℕ) → IsAmong q.servers j → f j ≡ g j) → q.reshared f ≡ q.reshared g
  pub opened_same : (f g : ℕ → ℕ) → ((j : ℕ) → IsAmong q.servers j → f j ≡ g j) → q.opened f ≡ q.opened g
  -- sums of multiples
  pub nothing : (i : ℕ) → IsAmong q.servers i → q.share 0 (λ m. 0) i ≡ 0
  pub constant : (k v i : ℕ) (f : ℕ → ℕ) → IsAmong q.servers i → q.share ((k + v) % p) f i ≡ (k + q.share v f i) % p
  pub multiple : (k v w i : ℕ) (f g : ℕ → ℕ) → IsAmong q.servers i →
      q.share ((k * v + w) % p) (λ m. (k * f m + g m) % p) i ≡ (k * q.share v f i + q.share w g i) % p
  -- the points of shared secrets put together are those of the secrets put together
  pub reshares : (x : ℕ → ℕ) (r : ℕ → ℕ → ℕ) (i : ℕ) → IsAmong q.servers i →
      q.reshared (λ j. q.share (x j) (r j) i) ≡ q.share (q.reshared x) (λ m. q.reshared (λ j. r j m)) i
  -- local products give the product, and points give the value
  pub products : (v w : ℕ) (f g : ℕ → ℕ) → q.reshared (λ j. mul_of (q.share v f j) (q.share w g j)) ≡ mul_of v w
  pub opens : (v : ℕ) (f : ℕ → ℕ) → IsElement v → q.opened (λ j. q.share v f j) ≡ v

-- more secrets take more numbers
pub more_places : (q : Sharing) (k h : ℕ) → k ≤ h → q.degree * k ≤ q.degree * h
more_places q k h le = mul-le-mul_left q.degree le

pub place-below : (q : Sharing) (k m h : ℕ) → q.degree * k + m < q.degree * h → k < h
place-below q k m h lt = ⊎_elim
    (λ (less : k < h). less)
    (λ (past : h ≤ k). let le = more_places q h k past in absurd (omega arith))
    (below_or k h)

pub place-within : (q : Sharing) (k m h : ℕ) → k < h → m < q.degree → q.degree * k + m < q.degree * h
place-within q k m h lt small = let le = more_places q (suc k) h (omega arith) in omega (arith, le, mul-suc q.degree k)

-- a place is the only one
pub place-same : (q : Sharing) (k m k' m' : ℕ) → m < q.degree → m' < q.degree → q.degree * k + m ≡ q.degree * k' + m' → k ≡ k'
place-same q k m k' m' small small' e = ⊎_elim
    (λ (less : k < k'). let lt = place-within q k m k' less small in absurd (omega arith))
    (λ (rest : (k ≡ k') ⊎ (k' < k)). ⊎_elim (λ (same : k ≡ k'). same)
    (λ (more : k' < k). let lt = place-within q k' m' k more small' in absurd (omega arith)) rest)
    (less-or k k')

pub same-place : (q : Sharing) (k m k' m' : ℕ) → m < q.degree → m' < q.degree → q.degree * k + m ≡ q.degree * k' + m' → m ≡ m'
same-place q k m k' m' small small' e =
    let same : q.degree * k ≡ q.degree * k' = ap (λ n. q.degree * n) (place-same q k m k' m' small small' e) in omega (arith, e, same)

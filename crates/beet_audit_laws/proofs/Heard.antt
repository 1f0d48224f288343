-- What two servers hold and receive tells which words and numbers the third uses.
use Rattle.std.proofs.Common.{◌≡◌, ◌≢◌, ◌<◌, ◌+◌, ℕ, List, length, get_or, slice_index, sym, ap, subst, ◌∙◌, ⊎_elim, arith}
use Rattle.std.specs.Int.{bit_at}
use Rattle.std.proofs.lemmas.Nat.Bits.{same_from_bits_below}
use Rattle.beet_field.specs.Trio.{member}
use Rattle.beet_field.specs.declared.point.Point.{Point}
use Rattle.beet_field.specs.declared.trio.Trio.{Trio}
use Rattle.beet_gates.specs.Each.{each}
use Rattle.beet_gates.specs.Scripts.{deals_in}
use Rattle.beet_gates.specs.declared.Act.{Act}
use Rattle.beet_gates.specs.declared.Act.TheVariants.{Deal, Mul, Reveal, End}
use Rattle.beet_gates.specs.declared.Batch.{Batch}
use Rattle.beet_gates.proofs.EachFacts.{get_or-each}
use Rattle.beet_gates.specs.Draws.{draws_in}
use Rattle.beet_sharing.specs.Runs.{Setup, Shared, coming, hidden_at, message, secret_hidden, sent_for, shared_at}
use Rattle.beet_sharing.specs.Runs.{standing_at, with_batch_lets}
use Rattle.beet_sharing.proofs.SameRuns.{UseSame, first, second}
use Rattle.beet_map.specs.Mapped.{AreWords}
use Rattle.beet_map.proofs.Moves.{same_or}
use Rattle.beet_map.proofs.Symmetry.{AreElements}
use Rattle.beet_audit_laws.proofs.CommonPoints.{same-line, same-slope}
use Rattle.beet_gates.proofs.Acts.{secret_small}

-- lists by rules that are the same have the same items
pub each-item : {A : Type 0} (f g : ℕ → A) (n m k : ℕ) → each f n ≡ each g m → k < n → k < m → f k ≡ g k
each-item {A = A} f g n m k e lt lt' =
    sym (get_or-each f n k (f k) lt) ∙ ap (λ (l : List A). get_or l k (f k)) e ∙ get_or-each g m k (f k) lt'

module _ (next : ℕ → List ℕ → Batch) (inputs masks masks' numbers numbers' : Trio (List ℕ)) (words : AreWords masks)
    (words' : AreWords masks')
    (elements : AreElements numbers) (elements' : AreElements numbers') where
  abbrev o : Setup
  o = first next inputs masks masks' numbers numbers'

  abbrev o' : Setup
  o' = second next inputs masks masks' numbers numbers'

  -- what is hidden in a message
  hidden-heard : (s : Shared) (a : Act) (from to : Point) → sent_for o' s a from to ≡ sent_for o s a from to → (k : ℕ) → k < draws_in a →
      hidden_at o' s a from to k ≡ hidden_at o s a from to k
  hidden-heard s Deal from to e k lt = each-item (hidden_at o' s Deal from to) (hidden_at o s Deal from to) 61 61 k e lt lt
  hidden-heard s (Mul pairs) from to e k lt =
      each-item (hidden_at o' s (Mul pairs) from to) (hidden_at o s (Mul pairs) from to) (length pairs.items) (length pairs.items) k e lt lt
  hidden-heard s (Reveal shown) from to e k lt = absurd (omega arith)
  hidden-heard s End from to e k lt = absurd (omega arith)

  module _ (i j : Point) (apart : i ≢ j) where
    -- a sender that both hear
    module _ (s : Shared) (from : Point) where
      bit-and-number : sent_for o' s Deal from i ≡ sent_for o s Deal from i →
          sent_for o' s Deal from j ≡ sent_for o s Deal from j → (k : ℕ) → k < 61 →
          (bit_at (slice_index (member masks' from) s.dealt) k ≡ bit_at (slice_index (member masks from) s.dealt) k)
          × (slice_index (member numbers' from) (s.drawn + k) ≡ slice_index (member numbers from) (s.drawn + k))
      bit-and-number e f k lt =
          let word = slice_index (member masks from) s.dealt in
          let word' = slice_index (member masks' from) s.dealt in
          same-line i j apart (bit_at word k) (slice_index (member numbers from) (s.drawn + k)) (bit_at word' k)
          (slice_index (member numbers' from) (s.drawn + k))
          (secret_small Deal (member s.wires from) word k) (elements from (s.drawn + k)) (secret_small Deal (member s.wires from) word' k)
          (elements' from (s.drawn + k)) (hidden-heard s Deal from i e k lt) (hidden-heard s Deal from j f k lt)

      word-heard : (a : Act) → sent_for o' s a from i ≡ sent_for o s a from i →
          sent_for o' s a from j ≡ sent_for o s a from j → 0 < deals_in a →
          slice_index (member masks' from) s.dealt ≡ slice_index (member masks from) s.dealt
      word-heard Deal e f some =
          same_from_bits_below 61 (slice_index (member masks' from) s.dealt) (slice_index (member masks from) s.dealt)
          (words' from s.dealt) (words from s.dealt)
          (λ k lt. (bit-and-number e f k lt).0)
      word-heard (Mul pairs) e f some = absurd (omega arith)
      word-heard (Reveal shown) e f some = absurd (omega arith)
      word-heard End e f some = absurd (omega arith)

      number-heard : (a : Act) → sent_for o' s a from i ≡ sent_for o s a from i →
          sent_for o' s a from j ≡ sent_for o s a from j → (k : ℕ) → k < draws_in a →
          slice_index (member numbers' from) (s.drawn + k) ≡ slice_index (member numbers from) (s.drawn + k)
      number-heard Deal e f k lt = (bit-and-number e f k lt).1
      number-heard (Mul pairs) e f k lt =
          same-slope i (secret_hidden o s (Mul pairs) from k) (slice_index (member numbers from) (s.drawn + k))
          (slice_index (member numbers' from) (s.drawn + k))
          (elements from (s.drawn + k)) (elements' from (s.drawn + k)) (hidden-heard s (Mul pairs) from i e k lt)
      number-heard (Reveal shown) e f k lt = absurd (omega arith)
      number-heard End e f k lt = absurd (omega arith)

    module _ (masks-i : member masks' i ≡ member masks i) (masks-j : member masks' j ≡ member masks j)
        (numbers-i : member numbers' i ≡ member numbers i) (numbers-j : member numbers' j ≡ member numbers j) where
      -- what holds of both, and of each other server, holds of all
      by-server : (P : Point → Type 0) → P i → P j → ((s : Point) → s ≢ i → s ≢ j → P s) → (s : Point) → P s
      by-server P at-i at-j other s = ⊎_elim
          (λ (e : s ≡ i). subst P (sym e) at-i)
          (λ (not-i : s ≢ i). ⊎_elim (λ (e : s ≡ j). subst P (sym e) at-j) (λ (not-j : s ≢ j). other s not-i not-j) (same_or s j))
          (same_or s i)

      use-same : (s : Shared) (a : Act) → ((from : Point) → from ≢ i → sent_for o' s a from i ≡ sent_for o s a from i) →
          ((from : Point) → from ≢ j → sent_for o' s a from j ≡ sent_for o s a from j) → UseSame masks masks' numbers numbers' s a
      use-same s a to-i to-j = record {
        word = by-server (λ x. 0 < deals_in a → slice_index (member masks' x) s.dealt ≡ slice_index (member masks x) s.dealt)
            (λ some. ap (λ l. slice_index l s.dealt) masks-i) (λ some. ap (λ l. slice_index l s.dealt) masks-j)
            (λ x not-i not-j some. word-heard s x a (to-i x not-i) (to-j x not-j) some);
        number = by-server (λ x. (k : ℕ) → k < draws_in a →
            slice_index (member numbers' x) (s.drawn + k) ≡ slice_index (member numbers x) (s.drawn + k))
            (λ k lt. ap (λ l. slice_index l (s.drawn + k)) numbers-i) (λ k lt. ap (λ l. slice_index l (s.drawn + k)) numbers-j)
            (λ x not-i not-j k lt. number-heard s x a (to-i x not-i) (to-j x not-j) k lt);
      }

      -- so it is in each round of which both hear the same
      pub heard : (rounds : ℕ) →
          ((t : ℕ) → t < rounds → (from : Point) → from ≢ i → message o' from i t ≡ message o from i t) →
          ((t : ℕ) → t < rounds → (from : Point) → from ≢ j → message o' from j t ≡ message o from j t) →
          (t : ℕ) → t < rounds → shared_at o' t ≡ shared_at o t → UseSame masks masks' numbers numbers' (standing_at o t) (coming o t).act
      heard rounds to-i to-j t lt same =
          let back : (from to : Point) → sent_for o' (standing_at o t) (coming o t).act from to ≡ message o' from to t =
          λ from to x. sent_for o' (with_batch_lets (next t (sym same x).opened) (sym same x)) (next t (sym same x).opened).act from to in
          use-same (standing_at o t) (coming o t).act (λ from ne. back from i ∙ to-i t lt from ne)
          (λ from ne. back from j ∙ to-j t lt from ne)

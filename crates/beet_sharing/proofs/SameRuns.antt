-- Runs in which the servers use the same words and numbers, and runs that one server cannot tell apart.
use Rattle.std.proofs.Common.{◌≡◌, ◌≤◌, ◌<◌, ◌+◌, ◌-◌, ℕ, zero, suc, List, [], ◌++◌, map, length, slice_index, sym}
use Rattle.std.proofs.Common.{refl, ap, subst, ◌∙◌, ⊎_elim, arith}
use Rattle.std.proofs.lemmas.Bool.{cases_lt}
use Rattle.std.specs.Int.{bit_at}
use Rattle.beet_field.specs.Trio.{member, trio_of}
use Rattle.beet_field.specs.declared.point.Point.{Point}
use Rattle.beet_field.specs.declared.point.Point.TheVariants.{One, Two, Three}
use Rattle.beet_field.specs.declared.trio.Trio.{Trio}
use Rattle.beet_shamir.specs.Line.{point_of, reshared}
use Rattle.beet_gates.specs.Clear.{is_end}
use Rattle.beet_gates.specs.Each.{each}
use Rattle.beet_gates.specs.Scripts.{deals_in}
use Rattle.beet_gates.specs.declared.Act.{Act}
use Rattle.beet_gates.specs.declared.Act.TheVariants.{Deal, Mul, Reveal, End}
use Rattle.beet_gates.specs.declared.Batch.{Batch}
use Rattle.beet_gates.proofs.EachFacts.{each-same}
use Rattle.beet_gates.specs.Draws.{draws_in, secret_of}
use Rattle.beet_sharing.specs.Runs.{Setup, Shared, HasRounds, act_among, coming, gained, hidden_at, message, opened_by}
use Rattle.beet_sharing.specs.Runs.{product_at, secret_hidden, sent_for, shared_at, standing_at, with_batch_lets}

-- what the servers use for an act is the same with other words and other numbers: the word that each deals, and the numbers that it draws
pub record UseSame (masks masks' numbers numbers' : Trio (List ℕ)) (s : Shared) (a : Act) : Type 0 where
  pub word : (j : Point) → 0 < deals_in a → slice_index (member masks' j) s.dealt ≡ slice_index (member masks j) s.dealt
  pub number : (j : Point) (k : ℕ) → k < draws_in a →
      slice_index (member numbers' j) (s.drawn + k) ≡ slice_index (member numbers j) (s.drawn + k)

-- a batch deals one word at most
deals-few : (a : Act) → deals_in a ≤ 1
deals-few Deal = omega arith
deals-few (Mul pairs) = omega arith
deals-few (Reveal shown) = omega arith
deals-few End = omega arith

pub dealt-le : (o : Setup) (u t : ℕ) → u ≤ t → (shared_at o u).dealt ≤ (shared_at o t).dealt
dealt-le o u zero le = let e : u ≡ 0 = omega arith in subst (λ x. (shared_at o x).dealt ≤ (shared_at o 0).dealt) (sym e) (omega arith)
dealt-le o u (suc t) le = ⊎_elim
    (λ (h : u < suc t).
    let a = dealt-le o u t (omega arith) in
    let b : (shared_at o (suc t)).dealt ≡ (shared_at o t).dealt + deals_in (coming o t).act = refl in omega arith)
    (λ (h : suc t ≤ u). let e : u ≡ suc t = omega arith in
    subst (λ x. (shared_at o x).dealt ≤ (shared_at o (suc t)).dealt) (sym e) (omega arith))
    (cases_lt u (suc t))

pub drawn-le : (o : Setup) (u t : ℕ) → u ≤ t → (shared_at o u).drawn ≤ (shared_at o t).drawn
drawn-le o u zero le =
    let e : u ≡ 0 = omega arith in
    subst (λ x. (shared_at o x).drawn ≤ (shared_at o 0).drawn) (sym e) (omega arith)
drawn-le o u (suc t) le = ⊎_elim
    (λ (h : u < suc t).
    let a = drawn-le o u t (omega arith) in
    let b : (shared_at o (suc t)).drawn ≡ (shared_at o t).drawn + draws_in (coming o t).act = refl in omega arith)
    (λ (h : suc t ≤ u). let e : u ≡ suc t = omega arith in
    subst (λ x. (shared_at o x).drawn ≤ (shared_at o (suc t)).drawn) (sym e) (omega arith))
    (cases_lt u (suc t))

-- each word below the count of those dealt was dealt in some batch
record DealtIn (o : Setup) (rounds n : ℕ) : Type 0 where
  pub batch : ℕ
  pub early : batch < rounds
  pub some : 0 < deals_in (coming o batch).act
  pub there : (shared_at o batch).dealt ≡ n

dealt-in : (o : Setup) (t n : ℕ) → n < (shared_at o t).dealt → DealtIn o t n
dealt-in o zero n lt = absurd (omega arith)
dealt-in o (suc t) n lt =
    let u : ℕ = (shared_at o t).dealt in
    let d : ℕ = deals_in (coming o t).act in
    let few : d ≤ 1 = deals-few (coming o t).act in
    let lt' : n < u + d = lt in
    ⊎_elim
    (λ (h : n < u).
    let g = dealt-in o t n h in record { batch = g.batch; early = let e = g.early in omega arith; some = g.some; there = g.there })
    (λ (h : u ≤ n). record {
      batch = t;
      early = omega arith;
      some = let b : 0 < d = omega arith in b;
      there = let b : u ≡ n = omega arith in b;
    })
    (cases_lt n u)

-- each number below the count of those drawn was drawn in some batch
pub record DrawnIn (o : Setup) (rounds n : ℕ) : Type 0 where
  pub batch : ℕ
  pub place : ℕ
  pub early : batch < rounds
  pub within : place < draws_in (coming o batch).act
  pub there : (shared_at o batch).drawn + place ≡ n

pub drawn-in : (o : Setup) (t n : ℕ) → n < (shared_at o t).drawn → DrawnIn o t n
drawn-in o zero n lt = absurd (omega arith)
drawn-in o (suc t) n lt =
    let u : ℕ = (shared_at o t).drawn in
    let d : ℕ = draws_in (coming o t).act in
    let lt' : n < u + d = lt in
    ⊎_elim
    (λ (h : n < u).
    let g = drawn-in o t n h in
    record {
      batch = g.batch;
      place = g.place;
      early = let e = g.early in omega arith;
      within = g.within;
      there = g.there;
    })
    (λ (h : u ≤ n). record {
      batch = t;
      place = n - u;
      early = omega arith;
      within = let b : n - u < d = omega arith in b;
      there = let b : u + (n - u) ≡ n = omega arith in b;
    })
    (cases_lt n u)

module _ (next : ℕ → List ℕ → Batch) (inputs masks masks' numbers numbers' : Trio (List ℕ)) where
  abbrev pub first : Setup
  first = record { next = next; inputs = inputs; masks = masks; numbers = numbers }

  abbrev pub second : Setup
  second = record { next = next; inputs = inputs; masks = masks'; numbers = numbers' }

  abbrev pub Uses : Shared → Act → Type 0
  Uses s a = UseSame masks masks' numbers numbers' s a

  -- one act
  module _ (s : Shared) where
    secret-same : (a : Act) → Uses s a → (j : Point) (k : ℕ) → secret_hidden second s a j k ≡ secret_hidden first s a j k
    secret-same Deal u j k = λ x. bit_at (u.word j (omega arith) x) k
    secret-same (Mul pairs) u j k = refl
    secret-same (Reveal shown) u j k = refl
    secret-same End u j k = refl

    hidden-same : (a : Act) → Uses s a → (j i : Point) (k : ℕ) → k < draws_in a → hidden_at second s a j i k ≡ hidden_at first s a j i k
    hidden-same a u j i k lt = λ x. point_of (secret-same a u j k x) (u.number j k lt x) i

    gained-same : (a : Act) → Uses s a → (i : Point) → gained second s a i ≡ gained first s a i
    gained-same Deal u i =
        let bits : (j : Point) → each (hidden_at second s Deal j i) 61 ≡ each (hidden_at first s Deal j i) 61 =
        λ j. each-same (hidden_at second s Deal j i) (hidden_at first s Deal j i) 61 (λ k lt. hidden-same Deal u j i k lt) in
        λ x. bits One x ++ (bits Two x ++ bits Three x)
    gained-same (Mul pairs) u i =
        each-same (product_at second s (Mul pairs) i) (product_at first s (Mul pairs) i) (length pairs.items)
        (λ k lt x. point_of (reshared (trio_of (λ j. secret_hidden first s (Mul pairs) j k)))
        (reshared (record { one = u.number One k lt x; two = u.number Two k lt x; three = u.number Three k lt x })) i)
    gained-same (Reveal shown) u i = refl
    gained-same End u i = refl

    pub act-same : (a : Act) → Uses s a → act_among second a s ≡ act_among first a s
    act-same a u =
        let g = gained-same a u in
        λ x. record {
          wires = record { one = s.wires.one ++ g One x; two = s.wires.two ++ g Two x; three = s.wires.three ++ g Three x };
          opened = s.opened ++ opened_by s a;
          drawn = s.drawn + draws_in a;
          dealt = s.dealt + deals_in a;
        }

    sent-same : (a : Act) → Uses s a → (from to : Point) → sent_for second s a from to ≡ sent_for first s a from to
    sent-same Deal u from to = each-same (hidden_at second s Deal from to) (hidden_at first s Deal from to) 61
        (λ k lt. hidden-same Deal u from to k lt)
    sent-same (Mul pairs) u from to =
        each-same (hidden_at second s (Mul pairs) from to) (hidden_at first s (Mul pairs) from to) (length pairs.items)
        (λ k lt. hidden-same (Mul pairs) u from to k lt)
    sent-same (Reveal shown) u from to = refl
    sent-same End u from to = refl

  -- a run of so many rounds, each of which uses the same where the runs are the same before it
  module _ (rounds : ℕ) (uses : (t : ℕ) → t < rounds → shared_at second t ≡ shared_at first t →
      Uses (standing_at first t) (coming first t).act) where
    pub run-same : (t : ℕ) → t ≤ rounds → shared_at second t ≡ shared_at first t
    run-same zero le = refl
    run-same (suc t) le =
        let same = run-same t (omega arith) in
        (λ x. act_among second (next t (same x).opened).act (with_batch_lets (next t (same x).opened) (same x)))
        ∙ act-same (standing_at first t) (coming first t).act (uses t (omega arith) same)

    uses-at : (t : ℕ) → t < rounds → Uses (standing_at first t) (coming first t).act
    uses-at t lt = uses t lt (run-same t (omega arith))

    pub message-same : (t : ℕ) → t < rounds → (from to : Point) → message second from to t ≡ message first from to t
    message-same t lt from to =
        let same = run-same t (omega arith) in
        (λ x. sent_for second (with_batch_lets (next t (same x).opened) (same x)) (next t (same x).opened).act from to)
        ∙ sent-same (standing_at first t) (coming first t).act (uses-at t lt) from to

    -- and the rounds
    pub ends-same : HasRounds first rounds → HasRounds second rounds
    ends-same h = record {
      ends = (λ x. is_end (next rounds (run-same rounds (omega arith) x).opened).act) ∙ h.ends;
      goes = λ t lt. (λ x. is_end (next t (run-same t (omega arith) x).opened).act) ∙ h.goes t lt;
    }

    -- the words that it deals are the same
    pub words-same : (j : Point) (n : ℕ) → n < (shared_at first rounds).dealt →
        slice_index (member masks' j) n ≡ slice_index (member masks j) n
    words-same j n lt =
        let at = dealt-in first rounds n lt in
        ap (λ m. slice_index (member masks' j) m) (sym at.there) ∙ (uses-at at.batch at.early).word j at.some
        ∙ ap (λ m. slice_index (member masks j) m) at.there

    -- and the numbers that it draws
    pub numbers-same : (j : Point) (n : ℕ) → n < (shared_at first rounds).drawn →
        slice_index (member numbers' j) n ≡ slice_index (member numbers j) n
    numbers-same j n lt =
        let at = drawn-in first rounds n lt in
        ap (λ m. slice_index (member numbers' j) m) (sym at.there) ∙ (uses-at at.batch at.early).number j at.place at.within
        ∙ ap (λ m. slice_index (member numbers j) m) at.there

  -- words and numbers that are the same as far as a run goes are used alike in it
  pub uses-below : (rounds : ℕ) →
      ((j : Point) (n : ℕ) → n < (shared_at first rounds).dealt → slice_index (member masks' j) n ≡ slice_index (member masks j) n) →
      ((j : Point) (n : ℕ) → n < (shared_at first rounds).drawn → slice_index (member numbers' j) n ≡ slice_index (member numbers j) n) →
      (t : ℕ) → t < rounds → Uses (standing_at first t) (coming first t).act
  uses-below rounds words drawn t lt =
      let dealt-more : (shared_at first (suc t)).dealt ≡ (shared_at first t).dealt + deals_in (coming first t).act = refl in
      let drawn-more : (shared_at first (suc t)).drawn ≡ (shared_at first t).drawn + draws_in (coming first t).act = refl in
      let dealt-before = dealt-le first (suc t) rounds (omega arith) in
      let drawn-before = drawn-le first (suc t) rounds (omega arith) in
      record {
        word = λ j some. words j (shared_at first t).dealt (omega arith);
        number = λ j k below. drawn j ((shared_at first t).drawn + k) (omega arith);
      }

-- what a server sends is told by its own points, words and numbers
abbrev sent_own : Act → List ℕ → List ℕ → ℕ → List ℕ → ℕ → Point → List ℕ
sent_own Deal points words dealt numbers drawn to =
    each (λ k. point_of (secret_of Deal points (slice_index words dealt) k) (slice_index numbers (drawn + k)) to) 61
sent_own (Mul pairs) points words dealt numbers drawn to =
    each (λ k. point_of (secret_of (Mul pairs) points (slice_index words dealt) k) (slice_index numbers (drawn + k)) to)
    (length pairs.items)
sent_own (Reveal shown) points words dealt numbers drawn to = map (slice_index points) shown.items
sent_own End points words dealt numbers drawn to = []

sent-own : (o : Setup) (s : Shared) (a : Act) (me to : Point) →
    sent_for o s a me to ≡ sent_own a (member s.wires me) (member o.masks me) s.dealt (member o.numbers me) s.drawn to
sent-own o s Deal me to = refl
sent-own o s (Mul pairs) me to = refl
sent-own o s (Reveal shown) me to = refl
sent-own o s End me to = refl

module _ (next : ℕ → List ℕ → Batch) (inputs masks numbers inputs' masks' numbers' : Trio (List ℕ)) (me : Point) (rounds : ℕ) where
  abbrev here : Setup
  here = record { next = next; inputs = inputs; masks = masks; numbers = numbers }

  abbrev there : Setup
  there = record { next = next; inputs = inputs'; masks = masks'; numbers = numbers' }

  module _ (opened : (t : ℕ) → t ≤ rounds → (shared_at there t).opened ≡ (shared_at here t).opened) where
    drawn-same : (t : ℕ) → t ≤ rounds → (shared_at there t).drawn ≡ (shared_at here t).drawn
    drawn-same zero le = refl
    drawn-same (suc t) le = λ x. drawn-same t (omega arith) x + draws_in (next t (opened t (omega arith) x)).act

    dealt-same-at : (t : ℕ) → t ≤ rounds → (shared_at there t).dealt ≡ (shared_at here t).dealt
    dealt-same-at zero le = refl
    dealt-same-at (suc t) le = λ x. dealt-same-at t (omega arith) x + deals_in (next t (opened t (omega arith) x)).act

    pub sends-same : ((t : ℕ) → t ≤ rounds → member (standing_at there t).wires me ≡ member (standing_at here t).wires me) →
        member masks' me ≡ member masks me → member numbers' me ≡ member numbers me → (t : ℕ) → t ≤ rounds →
        (to : Point) → message there me to t ≡ message here me to t
    sends-same standing words drawn t le to =
        let points = standing t le in
        let count = drawn-same t le in
        let deal = dealt-same-at t le in
        let same = opened t le in
        sent-own there (standing_at there t) (coming there t).act me to
        ∙ (λ x. sent_own (next t (same x)).act (points x) (words x) (deal x) (drawn x) (count x) to)
        ∙ sym (sent-own here (standing_at here t) (coming here t).act me to)

-- A lawful script's run comes to its end.
use Rattle.std.proofs.Common.{◌≡◌, ℕ, zero, suc, ◌+◌, ◌≤◌, true, false, Bool, List, [], length, slice_index, refl, sym, ◌∙◌, ap, arith}
use Rattle.std.proofs.Common.{inl, inr}
use Rattle.std.proofs.lemmas.Bool.{cases_eq}
use Rattle.std.proofs.lemmas.List.{length-map}
use Rattle.beet_gates.specs.Clear.{is_end}
use Rattle.beet_gates.specs.Scripts.{Standing, LawFrom, revealed, start_among}
use Rattle.beet_gates.specs.declared.Act.{Act}
use Rattle.beet_gates.specs.declared.Act.TheVariants.{Deal, Mul, Reveal, End}
use Rattle.beet_gates.proofs.ClearAt.{first-end}
use Rattle.beet_gates.proofs.Laws.{law-last}
use Rattle.beet_linear_sharing.specs.Sharings.{Sharing}
use Rattle.beet_linear_sharing.specs.Runs.{HasRounds, Setup, Shared, coming, opened_by, rounds_among, shared_at, standing_at}
use Rattle.beet_linear_sharing.proofs.Lawful.{AreOpened, Goes, Lawful, lawful-next, stands}

length-opened_by : (q : Sharing) (s : Shared) (a : Act) → length (opened_by q s a) ≡ revealed a
length-opened_by q s Deal = refl
length-opened_by q s (Mul pairs) = refl
length-opened_by q s (Reveal shown) = length-map shown.items (λ w. q.opened (λ i. slice_index (s.wires i) w))
length-opened_by q s End = refl

module _ (q : Sharing) (o : Setup) (bounds : Standing) (dealers inputs most : ℕ) where
  -- what a run opens is opened by its batches
  abbrev pub seen : ℕ → List ℕ
  seen t = (shared_at q o t).opened

  pub are-opened : AreOpened o.next bounds dealers inputs most seen
  are-opened = record {
    starts = refl;
    more = λ t. opened_by q (standing_at q o t) (coming q o t).act;
    count = λ t. length-opened_by q (standing_at q o t) (coming q o t).act;
    grows = λ t. refl;
  }

  abbrev On : ℕ → Type 0
  On t = Goes o.next bounds dealers inputs most seen t

  abbrev Law : ℕ → ℕ → Type 0
  Law n t = Lawful o.next bounds dealers inputs most seen n t

  reaches : (n t : ℕ) → Law n t → On t → (r : ℕ) × HasRounds q o r × (r ≤ t + n)
  reaches zero t l go =
      let last : is_end (coming q o t).act ≡ true =
      ap (λ k. is_end (o.next k (seen t)).act) (sym l.at)
      ∙ law-last o.next bounds (stands o.next bounds dealers inputs most seen t) (seen t) l.law in
      (t, record { ends = last; goes = go }, omega arith)
  reaches (suc n) t l go =
      by_end (is_end (coming q o t).act) refl
      (λ more on. reaches n (suc t) (lawful-next o.next bounds dealers inputs most seen are-opened n t l more) on) where
        on : is_end (coming q o t).act ≡ false → On (suc t)
        on more k lt = elim (cases_eq k t) [
          | inl same ↦ rw same more
          | inr other ↦ go k (omega (arith, other, lt))
        ]

        by_end : (e : Bool) → is_end (coming q o t).act ≡ e →
            (is_end (coming q o t).act ≡ false → On (suc t) → (r : ℕ) × HasRounds q o r × (r ≤ suc t + n)) →
            (r : ℕ) × HasRounds q o r × (r ≤ t + suc n)
        by_end true e rest = (t, record { ends = e; goes = go }, omega arith)
        by_end false e rest = let r = rest e (on e) in (r.0, r.1, omega (arith, r.2))

  among-rounds : (r : ℕ) → HasRounds q o r → r ≤ most → rounds_among q o most ≡ r
  unfolding rounds_among
  among-rounds r h le = first-end (λ t. (coming q o t).act) most r le h.ends h.goes

  pub lawful-rounds : LawFrom o.next bounds most (start_among dealers inputs) [] → HasRounds q o (rounds_among q o most)
      × (rounds_among q o most ≤ most)
  lawful-rounds law =
      let r = reaches most 0 (record { at = refl; law = law }) (λ k lt. absurd (omega (arith, lt))) in
      let le : r.0 ≤ most = omega (arith, r.2) in
      rw (among-rounds r.0 r.1 le) (r.1, le)

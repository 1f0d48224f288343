-- How many rounds a run has.
use Rattle.std.proofs.Common.{◌≡◌, ℕ, zero, suc, ◌+◌, ◌<◌, ◌≤◌, true, false, Bool, List, [], length, refl, sym, ◌∙◌, ap, subst, arith}
use Rattle.beet_gates.specs.Clear.{Values, act_on, batch_on, clear_at, clear_values, is_end, rounds_run, with_lets}
use Rattle.beet_gates.specs.Deals.{deals_of}
use Rattle.beet_gates.specs.Scripts.{Standing, LawFrom, start_of}
use Rattle.beet_gates.specs.declared.Act.{Act}
use Rattle.beet_gates.specs.declared.Act.TheVariants.{Deal, Mul, Reveal, End}
use Rattle.beet_gates.specs.declared.Batch.{Batch}
use Rattle.beet_gates.proofs.ClearAt.{first-end, first-few, run-ends}
use Rattle.beet_gates.proofs.ClearFacts.{end-opens}
use Rattle.beet_sharing.specs.Runs.{Setup, HasRounds, coming, rounds_among, shared_at, standing_at}
use Rattle.beet_sharing.specs.Lines.{OnLines, slopes_at, slopes_standing}
use Rattle.beet_sharing.proofs.LinesLaw.{at-one, lets-on-lines, same-rounds}
use Rattle.beet_sharing.specs.Rounds.{HasInputs, RoundIsWithin}
use Rattle.beet_sharing.proofs.Walk.{Goes, goes-on, Lawful, Walks, deals-fit, draws-fit, lawful-last, lawful-next}
use Rattle.beet_sharing.proofs.Walk.{lawful-start, message-length, size-small, size-some, walks, wires-fit}

-- a run that has r rounds has so many among as many or more
pub among-rounds : (o : Setup) (r most : ℕ) → HasRounds o r → r ≤ most → rounds_among o most ≡ r
unfolding rounds_among
among-rounds o r most h le = first-end (λ t. (coming o t).act) most r le h.ends h.goes

pub among-few : (o : Setup) (most : ℕ) → rounds_among o most ≤ most
unfolding rounds_among
among-few o most = first-few (λ t. (coming o t).act) most

-- a lawful run that stands in a round t, and of which at most n batches are left, comes to its end
reaches : (o : Setup) (bounds : Standing) (inputs n t : ℕ) → Lawful o bounds inputs n t → Goes o t → (r : ℕ) × HasRounds o r × (r ≤ t + n)
reaches o bounds inputs zero t l go = (t, record { ends = lawful-last o bounds inputs t l; goes = go }, omega arith)
reaches o bounds inputs (suc n) t l go =
    by_end (is_end (coming o t).act) refl (λ more on. reaches o bounds inputs n (suc t) (lawful-next o bounds inputs n t l more) on) where
      by_end : (e : Bool) → is_end (coming o t).act ≡ e →
          (is_end (coming o t).act ≡ false → Goes o (suc t) → (r : ℕ) × HasRounds o r × (r ≤ suc t + n)) →
          (r : ℕ) × HasRounds o r × (r ≤ t + suc n)
      by_end true e rest = (t, record { ends = e; goes = go }, omega arith)
      by_end false e rest =
          let r = rest e (goes-on o t go e) in
          (r.0, r.1, omega (arith, r.2))

-- a lawful run ends after at most so many rounds
pub lawful-rounds : (o : Setup) (bounds : Standing) (most inputs : ℕ) → LawFrom o.next bounds most (start_of inputs) [] →
    HasRounds o (rounds_among o most) × (rounds_among o most ≤ most)
lawful-rounds o bounds most inputs law =
    let r = reaches o bounds inputs most 0 (lawful-start o bounds most inputs law) (λ k lt. absurd (omega (arith, lt))) in
    let le : r.0 ≤ most = omega (arith, r.2) in
    rw (among-rounds o r.0 most r.1 le) (r.1, le)

-- a lawful run on lines has the clear run's rounds, and opens its numbers
pub ends-alike : (o : Setup) (bounds : Standing) (most : ℕ) (values slopes : List ℕ) →
    LawFrom o.next bounds most (start_of (length values)) [] →
    OnLines values slopes o.inputs →
    (rounds_among o most ≡ rounds_run o.next most values o.masks)
    × ((shared_at o (rounds_among o most)).opened ≡ (clear_values o.next most values o.masks).opened)
ends-alike o bounds most values slopes law lines =
    let clear = run-ends o.next o.masks bounds most values law in
    let r = rounds_run o.next most values o.masks in
    let same : rounds_among o most ≡ r = among-rounds o r most ((same-rounds o values slopes lines r).1 clear.0) clear.1 in
    let deals = deals_of o.masks in
    let v = clear_at o.next deals values r in (
      same,
      ap (λ k. (shared_at o k).opened) same ∙ (at-one o values slopes lines r).opened
          ∙ sym (end-opens deals (o.next r v.opened) v clear.0.0),
    )

-- and only appends its lets
end-wires : (deals : ℕ → List ℕ) (b : Batch) (v : Values) → is_end b.act ≡ true →
    (batch_on deals b v).wires ≡ with_lets v.wires b.lets.items
end-wires deals b v e = by_act b.act (record v { wires = with_lets v.wires b.lets.items }) e where
  by_act : (a : Act) (w : Values) → is_end a ≡ true → (act_on deals a w).wires ≡ w.wires
  by_act Deal w h = cc h
  by_act (Mul pairs) w h = cc h
  by_act (Reveal shown) w h = refl
  by_act End w h = refl

-- and at its end the points of each wire are those of the line with the clear run's value
pub wires-alike : (o : Setup) (bounds : Standing) (most : ℕ) (values slopes : List ℕ) →
    LawFrom o.next bounds most (start_of (length values)) [] →
    OnLines values slopes o.inputs →
    OnLines (clear_values o.next most values o.masks).wires (slopes_standing o slopes (rounds_among o most))
    (standing_at o (rounds_among o most)).wires
wires-alike o bounds most values slopes law lines =
    let clear = run-ends o.next o.masks bounds most values law in
    let r = rounds_run o.next most values o.masks in
    let same : rounds_among o most ≡ r = (ends-alike o bounds most values slopes law lines).0 in
    let deals = deals_of o.masks in
    let v = clear_at o.next deals values r in
    let at = at-one o values slopes lines r in
    let are : with_lets v.wires (coming o r).lets.items ≡ (clear_values o.next most values o.masks).wires =
    ap (λ x. with_lets v.wires (o.next r x).lets.items) at.opened ∙ sym (end-wires deals (o.next r v.opened) v clear.0.0) in
    subst (λ n. OnLines (clear_values o.next most values o.masks).wires (slopes_standing o slopes n) (standing_at o n).wires) (sym same)
    (subst (λ w. OnLines w (slopes_standing o slopes r) (standing_at o r).wires) are
    (lets-on-lines (coming o r) v.wires (slopes_at o slopes r) (shared_at o r) at.lines))

-- the end does not come before the rounds are over
pub goes-before : (o : Setup) (r t : ℕ) → HasRounds o r → t ≤ r → Goes o t
goes-before o r t h le k lt = h.goes k (omega (arith, le, lt))

-- a lawful run after t of its rounds
pub walks-among : (o : Setup) (bounds : Standing) (most inputs : ℕ) → LawFrom o.next bounds most (start_of inputs) [] →
    HasInputs o inputs → (t : ℕ) →
    t ≤ rounds_among o most → Walks o bounds most t
walks-among o bounds most inputs law h t le =
    walks o bounds most inputs law h t (goes-before o (rounds_among o most) t (lawful-rounds o bounds most inputs law).0 le)

-- a round of a lawful run
pub rounds-within : (o : Setup) (bounds : Standing) (most inputs : ℕ) →
    LawFrom o.next bounds most (start_of inputs) [] → HasInputs o inputs → (t : ℕ) →
    t < rounds_among o most → RoundIsWithin o bounds t
rounds-within o bounds most inputs law h t lt =
    let w = walks-among o bounds most inputs law h t (omega (arith, lt)) in
    record {
      drawn = draws-fit o bounds most t w;
      dealt = deals-fit o bounds most t w;
      points = wires-fit o bounds most t w;
      numbers = λ from to. message-length o from to t;
      some = size-some o bounds most t w ((lawful-rounds o bounds most inputs law).0.goes t lt);
      few = size-small o bounds most t w;
    }

-- The premise of the walk, from what is tested before it.
use Rattle.std.proofs.Common.{◌≡◌, ◌≤◌, ◌<◌, ◌+◌, ℕ, zero, suc, List, [], ◌∷◌, length, slice_index, sym, refl, ap}
use Rattle.std.proofs.Common.{subst, ◌∙◌, arith}
use Rattle.std.proofs.lemmas.List.{get_or-take, length-map}
use Rattle.beet_field.specs.Field.{IsElement}
use Rattle.beet_field.specs.Trio.{member, trio_of}
use Rattle.beet_field.specs.declared.point.Point.{Point}
use Rattle.beet_field.specs.declared.point.Point.TheVariants.{One, Two, Three}
use Rattle.beet_field.specs.declared.trio.Trio.{Trio}
use Rattle.beet_shamir.specs.Line.{point_of}
use Rattle.beet_shamir.specs.declared.Line.{Line}
use Rattle.beet_gates.specs.Clear.{EndsAfter, rounds_run}
use Rattle.beet_gates.specs.Deals.{deals_of}
use Rattle.beet_gates.specs.Scripts.{HasWords, LawFrom, bounds_of, deals_in, start_of}
use Rattle.beet_gates.specs.declared.Batch.{Batch}
use Rattle.beet_gates.proofs.AllAlong.{opened-to-ends}
use Rattle.beet_gates.proofs.ClearAt.{ends-once, run-ends}
use Rattle.beet_gates.proofs.ClearFacts.{end-opens}
use Rattle.beet_sharing.specs.Lines.{OnLines}
use Rattle.beet_sharing.specs.Runs.{HasRounds, Setup, coming, shared_at}
use Rattle.beet_sharing.proofs.LinesLaw.{at-one, same-act, same-rounds}
use Rattle.beet_sharing.proofs.Walk.{Walks, deals-fit, draws-fit, walks}
use Rattle.beet_map.specs.Secrets.{Secrets, begin_in, shares_of, slopes_of, values_of}
use Rattle.beet_map.specs.Premise.{HasRoom, clear_of}
use Rattle.beet_map.specs.Refused.{HasSecrets, LookSame, opened_in}
use Rattle.beet_sharing.proofs.Lined.{member-trio}
use Rattle.beet_map.proofs.Whole.{AreAlike}

point_at : (lines : List Line) (i : Point) (k : ℕ) →
    slice_index (shares_of lines i) k ≡ point_of (slice_index (values_of lines) k) (slice_index (slopes_of lines) k) i
point_at [] One k = refl
point_at [] Two k = refl
point_at [] Three k = refl
point_at (l ∷ ls) i zero = refl
point_at (l ∷ ls) i (suc k) = point_at ls i k

length_shares : (lines : List Line) (i : Point) → length (shares_of lines i) ≡ length lines
length_shares lines i = length-map lines (λ (l : Line). point_of l.value l.slope i)

pub on_lines : (lines : List Line) → ((k : ℕ) → IsElement (slice_index (values_of lines) k)) →
    OnLines (values_of lines) (slopes_of lines) (trio_of (shares_of lines))
on_lines lines few = record {
  paired = length-map lines (λ (l : Line). l.slope) ∙ sym (length-map lines (λ (l : Line). l.value));
  lengths = λ i. ap length (member-trio (shares_of lines) i) ∙ length_shares lines i ∙ sym (length-map lines (λ (l : Line). l.value));
  points = λ i k. ap (λ l. slice_index l k) (member-trio (shares_of lines) i) ∙ point_at lines i k;
  elements = few;
}

each_enough : {n : ℕ} → (numbers : Trio (List ℕ)) → HasWords n numbers → (j : Point) → n ≤ length (member numbers j)
each_enough numbers h One = h.0
each_enough numbers h Two = h.1
each_enough numbers h Three = h.2

module _ (next : ℕ → List ℕ → Batch) (most inputs masks wires coefficients : ℕ)
    (law : LawFrom next (bounds_of wires masks coefficients) most (start_of inputs) []) where
  -- the numbers that are opened at the end
  module _ (w : Secrets) (has : HasSecrets inputs masks w) where
    law_here : LawFrom next (bounds_of wires masks coefficients) most (start_of (length (values_of w.inputs))) []
    law_here =
        subst (λ n. LawFrom next (bounds_of wires masks coefficients) most (start_of n) [])
        (sym (length-map w.inputs (λ (l : Line). l.value) ∙ has.inputs)) law

    run_of : ℕ
    run_of = rounds_run next most (values_of w.inputs) w.masks

    pub ends_there : EndsAfter next (deals_of w.masks) (values_of w.inputs) (rounds_run next most (values_of w.inputs) w.masks)
    ends_there = (run-ends next w.masks (bounds_of wires masks coefficients) most (values_of w.inputs) law_here).0

    pub few_rounds : rounds_run next most (values_of w.inputs) w.masks ≤ most
    few_rounds = (run-ends next w.masks (bounds_of wires masks coefficients) most (values_of w.inputs) law_here).1

    pub opened_is : opened_in next most w ≡ (clear_of next w (rounds_run next most (values_of w.inputs) w.masks)).opened
    opened_is =
        let r : ℕ = rounds_run next most (values_of w.inputs) w.masks in
        end-opens (deals_of w.masks) (next r (clear_of next w r).opened) (clear_of next w r) ends_there.0

    -- a run that ends after so many batches has these rounds
    pub rounds_are : (r : ℕ) → EndsAfter next (deals_of w.masks) (values_of w.inputs) r →
        r ≡ rounds_run next most (values_of w.inputs) w.masks
    rounds_are r h = ends-once next (deals_of w.masks) (values_of w.inputs) r
        (rounds_run next most (values_of w.inputs) w.masks) h ends_there

  module _ (me : Point) (w w' : Secrets) (has : HasSecrets inputs masks w) (has' : HasSecrets inputs masks w')
      (few : (k : ℕ) → IsElement (slice_index (values_of w.inputs) k))
      (few' : (k : ℕ) → IsElement (slice_index (values_of w'.inputs) k)) (same : LookSame next most masks me w w')
      (rounds : ℕ) (run : rounds ≡ rounds_run next most (values_of w.inputs) w.masks) where
    ends : EndsAfter next (deals_of w.masks) (values_of w.inputs) rounds
    ends = subst (λ r. EndsAfter next (deals_of w.masks) (values_of w.inputs) r) (sym run) (ends_there w has)

    opens : (t : ℕ) → t ≤ rounds → (clear_of next w' t).opened ≡ (clear_of next w t).opened
    opens t le =
        let r' : ℕ = rounds_run next most (values_of w'.inputs) w'.masks in
        opened-to-ends next (deals_of w.masks) (deals_of w'.masks) (values_of w.inputs) (values_of w'.inputs) rounds r'
        (sym (opened_is w' has') ∙ sym same.opened ∙ opened_is w has ∙ (λ i. (clear_of next w (sym run i)).opened))
        ends (ends_there w' has') t le

    module _ (numbers : Trio (List ℕ)) where
      o : Setup
      o = begin_in next w numbers

      pub stands : (t : ℕ) → t ≤ rounds → Walks (begin_in next w numbers) (bounds_of wires masks coefficients) most t
      stands t le =
          let lines = on_lines w.inputs few in
          let runs : HasRounds (begin_in next w numbers) rounds =
          (same-rounds (begin_in next w numbers) (values_of w.inputs) (slopes_of w.inputs) lines rounds).1 ends in
          walks (begin_in next w numbers) (bounds_of wires masks coefficients) most inputs law
          (λ i. ap length (member-trio (shares_of w.inputs) i) ∙ length_shares w.inputs i ∙ has.inputs) t
          (λ k lt. runs.goes k (omega arith))

    no_numbers : Trio (List ℕ)
    no_numbers = record { one = []; two = []; three = [] }

    words_same : (t : ℕ) → t < rounds → 0 < deals_in (next t (clear_of next w t).opened).act →
        slice_index (member w'.masks me) (clear_of next w t).dealt ≡ slice_index (member w.masks me) (clear_of next w t).dealt
    words_same t lt some =
        let first : Setup = begin_in next w no_numbers in
        let lines = on_lines w.inputs few in
        let dealt : (shared_at first t).dealt ≡ (clear_of next w t).dealt =
        (at-one first (values_of w.inputs) (slopes_of w.inputs) lines t).dealt in
        let act : (coming first t).act ≡ (next t (clear_of next w t).opened).act =
        same-act first (values_of w.inputs) (slopes_of w.inputs) lines t in
        let fit : (clear_of next w t).dealt + deals_in (next t (clear_of next w t).opened).act ≤ masks =
        subst (λ n. n ≤ masks) (λ i. dealt i + deals_in (act i))
        (deals-fit first (bounds_of wires masks coefficients) most t (stands no_numbers t (omega arith))) in
        let n : ℕ = (clear_of next w t).dealt in
        let low : n < masks = omega arith in
        sym (get_or-take masks (member w'.masks me) n 0 low)
        ∙ ap (λ l. slice_index l n) (sym same.words) ∙ get_or-take masks (member w.masks me) n 0 low

    pub are_alike : AreAlike next most me rounds w w'
    are_alike = record {
      may = record {
        lines = on_lines w.inputs few;
        lines' = on_lines w'.inputs few';
        inputs = sym same.shares;
        opens = opens;
        words = words_same;
      };
      ends = ends;
      few = subst (λ r. r ≤ most) (sym run) (few_rounds w has);
    }

    pub has_room : (numbers : Trio (List ℕ)) → HasWords coefficients numbers → HasRoom rounds (begin_in next w numbers) w'
    has_room numbers enough = record {
      numbers = λ t j lt.
          let a = draws-fit (begin_in next w numbers) (bounds_of wires masks coefficients) most t (stands numbers t (omega arith)) in
          let b = each_enough numbers enough j in omega arith;
      words = λ t lt.
          let a = deals-fit (begin_in next w numbers) (bounds_of wires masks coefficients) most t (stands numbers t (omega arith)) in
          let b = has.masks.0 in omega arith;
      words' = λ t lt.
          let a = deals-fit (begin_in next w numbers) (bounds_of wires masks coefficients) most t (stands numbers t (omega arith)) in
          let b = has'.masks.0 in omega arith;
    }

use Rattle.std.proofs.Common.{◌<◌, ◌++◌, ◌∷◌, [], ℕ, List, length, slice_index, take, ap, sym, subst, ◌∙◌, arith}
use Rattle.std.proofs.lemmas.List.{map-append, take_all, take_more}
use Rattle.beet_field.specs.Field.{IsElement}
use Rattle.beet_shamir.specs.declared.Line.{Line}
use Rattle.beet_map.specs.Secrets.{values_of}
use Rattle.beet_map.proofs.Places.{elements_more}
use Rattle.beet_map.proofs.refusals.values.Goals as goal

pub loop-line-preserved : goal.loop-line-preserved
loop-line-preserved c =
    let lines : List Line = c.args.lines.now in
    let i : ℕ = c.loop-line.line-index in
    let line : Line = c.line-item.result in
    let lt : i < length lines = omega arith in
    record {
      so_far = c.in_ok-push.ensures.items ∙ (λ j. c.loop-line.invariant.so_far j ++ line.value ∷ [])
          ∙ sym (ap values_of (take_more lines i line lt) ∙ map-append (λ (l : Line). l.value) (take i lines) _
          ∙ (λ j. values_of (take i lines) ++ (sym c.line-item.is j).value ∷ []));
      elements = subst (λ (l : List ℕ). (k : ℕ) → IsElement (slice_index l k)) (sym c.in_ok-push.ensures.items)
          (elements_more c.loop-line.values.items line.value c.loop-line.invariant.elements
          (subst (λ x. IsElement x) c.value-below.ensures.value c.value-below.ensures.below));
    }

pub returns-clause-values : goal.returns-clause-values
returns-clause-values c = c.loop-line.invariant.so_far ∙ ap values_of (take_all c.loop-line.line-index c.args.lines.now (omega arith))

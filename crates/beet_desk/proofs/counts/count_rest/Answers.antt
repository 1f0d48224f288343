use Rattle.std.proofs.Common.{ap, sym, subst, ◌∙◌}
use Rattle.beet_field.specs.Trio.{member}
use Rattle.beet_desk.specs.Counts.{HasPlace, count_of, together}
use Rattle.beet_desk.proofs.CountFacts.{rest-place, rest-total}
use Rattle.beet_desk.proofs.counts.count_rest.Goals as goal

pub loop-preserved : goal.loop-preserved
loop-preserved g c =
    let old = c.loop.left in
    let new = c.next-in-loop.new.self in
    let note = c.in-Some-next.note in
    record {
      place = λ s. subst (λ t. HasPlace (member t s) (member new s)) (sym c.with_note-sums.ensures)
          (rest-place c.loop.sums old new note c.in-Some-next.ensures c.loop.invariant.place s);
      total = λ s. ap (λ t. together (member t s) (count_of (member new s))) c.with_note-sums.ensures
          ∙ rest-total c.loop.sums old new note c.in-Some-next.ensures s ∙ c.loop.invariant.total s;
    }

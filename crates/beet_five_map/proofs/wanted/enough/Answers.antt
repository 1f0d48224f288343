use Rattle.std.proofs.Common.{subst, ◌∙◌}
use Rattle.std.specs.Prelude.{All}
use Rattle.beet_words.specs.Words.{IsWord}
use Rattle.beet_five_map.proofs.EnoughFacts.{run-wanted, wanted-run}
use Rattle.beet_five_map.proofs.wanted.enough.Goals as goal

pub returns : goal.returns
returns c = (
  λ t. wanted-run c.args.book.now c.args.words.now
      (subst (All (λ list. All IsWord list)) (c.deref.ensures.value ∙ (λ i. (c.words.view_is i).masks)) c.look_at.ensures)
      (subst (All (λ list. All IsWord list)) (c.deref-2.ensures.value ∙ (λ i. (c.words.view_is i).coefficients)) c.look_at-2.ensures)
      (subst (All (λ list. All IsWord list)) (c.deref-3.ensures.value ∙ (λ i. (c.words.view_is i).bidders)) c.look_at-3.ensures)
      (c.are_wanted.ensures.0 t),
  λ can. c.are_wanted.ensures.1 (run-wanted c.args.book.now c.args.words.now can),
)

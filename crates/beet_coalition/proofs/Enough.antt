-- Numbers that are enough for a lawful script are enough for each of its batches.
use Rattle.std.proofs.Common.{◌≡◌, ℕ, zero, suc, ◌+◌, ◌*◌, ◌≤◌, [], length, refl, sym, ◌∙◌, ap, arith}
use Rattle.beet_gates.specs.Scripts.{Standing, LawFrom, start_among}
use Rattle.beet_gates.specs.Draws.{draws_in}
use Rattle.beet_linear_sharing.specs.Sharings.{Sharing, IsAmong}
use Rattle.beet_linear_sharing.specs.Runs.{HasRounds, Setup, coming, shared_at}
use Rattle.beet_coalition.specs.Pairs.{HasNumbers}
use Rattle.beet_linear_sharing.proofs.Laws.{more_places}
use Rattle.beet_linear_sharing.proofs.Lawful.{draws-fit, draws-more, stands}
use Rattle.beet_linear_sharing.proofs.Ends.{are-opened, seen}

module _ (q : Sharing) (o : Setup) (bounds : Standing) (dealers inputs most : ℕ) where
  hidden-are : (t : ℕ) → (shared_at q o t).hidden
      ≡ (stands o.next bounds dealers inputs most (seen q o bounds dealers inputs most) t).coefficients
  hidden-are zero = refl
  hidden-are (suc t) =
      ap (λ n. n + draws_in (coming q o t).act) (hidden-are t)
      ∙ sym (draws-more o.next bounds dealers inputs most (seen q o bounds dealers inputs most) t)

  pub has-numbers : (rounds : ℕ) → LawFrom o.next bounds most (start_among dealers inputs) [] → HasRounds q o rounds →
      ((j : ℕ) → IsAmong q.servers j → q.degree * bounds.coefficients ≤ length (o.numbers j)) → HasNumbers q rounds o
  has-numbers rounds law h enough t j at lt =
      let fit = draws-fit o.next bounds dealers inputs most (seen q o bounds dealers inputs most) law
      (are-opened q o bounds dealers inputs most) t (λ k l. h.goes k (omega arith)) in
      let few : (shared_at q o t).hidden + draws_in (coming q o t).act ≤ bounds.coefficients = omega (arith, fit, hidden-are t) in
      let more = more_places q ((shared_at q o t).hidden + draws_in (coming q o t).act) bounds.coefficients few in
      omega (arith, more, enough j at)

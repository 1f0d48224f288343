use Rattle.std.proofs.Common.{arith, ◌≡◌, ◌∙◌, ap, subst, length, drop, Ok}
use Rattle.beet_words.specs.Words.{accepted}
use Rattle.beet_errand.specs.Fetches.{Tests}
use Rattle.beet_load.specs.Servers.{enough_of}
use Rattle.beet_load.proofs.ServerSteps.{counts_pass}
use Rattle.beet_load.proofs.servers.check_counts.Goals as goal

pub returns-clause-tests : goal.returns-clause-tests
returns-clause-tests c =
    let numbers = c.words.inside.coefficients in
    let masks = c.words.inside.masks in
    let held : c.accepted_left-held.result ≡ length (accepted numbers.words) =
    c.accepted_left-held.ensures ∙ ap (λ n. length (accepted (drop n numbers.words))) c.words.invariant.1 in
    let many : c.masks_left-held.result ≡ length masks.words = omega (arith, c.masks_left-held.ensures, c.words.invariant.0) in
    subst (λ words. Tests (enough_of c.args.wanted.now c.args.server words) (Ok tt)) c.words.view_is
    (counts_pass c.args.wanted.now c.args.server (record { masks = masks.words; coefficients = numbers.words })
    (omega (arith, held, c.if-held-want.false, c.coefficients-want.ensures))
    (omega (arith, many, c.if-held-want-2.false, c.masks-want.ensures)))

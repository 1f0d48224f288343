use Rattle.std.proofs.Common.{◌≡◌, ◌∙◌, ap, length, drop}
use Rattle.beet_words.specs.Words.{accepted}
use Rattle.beet_load.proofs.farmers.check_words.Goals.{After-check_accepted}
use Rattle.beet_load.proofs.farmers.check_words.Goals as goal

-- all words of the tape are left
held : (c : After-check_accepted) → c.accepted_left.result ≡ length (accepted c.args.tape.now.words)
held c = c.accepted_left.ensures ∙ ap (λ n. length (accepted (drop n c.args.tape.now.words))) c.requires

pub returns-clause-tests : goal.returns-clause-tests
returns-clause-tests c = rw (held c) at c.check_accepted.ensures.tests

pub returns-clause-enough : goal.returns-clause-enough
returns-clause-enough c = rw (held c) at c.check_accepted.ensures.enough
